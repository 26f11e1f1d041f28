use Rattle.room_http_messages.proofs.LawLemmas.{one_reading_law}
use Rattle.room_http_messages.proofs.laws.one_reading.Goals as goal

pub returns : goal.returns
returns c = one_reading_law
