use Rattle.room_http.proofs.RunLemmas.{room_split, run_join}
use Rattle.room_http.proofs.laws.a_run_goes_on.Goals as goal

pub returns-clause-run : goal.returns-clause-run
returns-clause-run c = run_join

pub returns-clause-leads : goal.returns-clause-leads
returns-clause-leads c = λ room xs ys. room_split xs ys room
