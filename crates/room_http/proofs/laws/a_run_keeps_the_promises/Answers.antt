use Rattle.room_http.proofs.PromiseLaws.{promises_kept}
use Rattle.room_http.proofs.laws.a_run_keeps_the_promises.Goals as goal

pub returns : goal.returns
returns c = promises_kept
