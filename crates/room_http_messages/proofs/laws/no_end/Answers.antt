use Rattle.room_http_messages.proofs.LawLemmas.{no_end_law}
use Rattle.room_http_messages.proofs.laws.no_end.Goals as goal

pub returns : goal.returns
returns c = no_end_law
