use Rattle.room_http.proofs.RunLemmas.{dialogue_run}
use Rattle.room_http.proofs.laws.a_dialogue_is_a_run.Goals as goal

pub returns : goal.returns
returns c = dialogue_run
