use Rattle.room_http.proofs.LawLemmas.{one_dialogue_law}
use Rattle.room_http.proofs.laws.one_dialogue.Goals as goal

pub returns : goal.returns
returns c = one_dialogue_law
