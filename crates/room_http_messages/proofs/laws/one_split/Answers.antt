use Rattle.room_http_messages.proofs.LawLemmas.{one_split_law}
use Rattle.room_http_messages.proofs.laws.one_split.Goals as goal

pub returns : goal.returns
returns c = one_split_law
