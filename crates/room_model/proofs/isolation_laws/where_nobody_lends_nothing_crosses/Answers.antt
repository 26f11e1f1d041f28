use Rattle.room_model.proofs.Runs.{run_everyday}
use Rattle.room_model.proofs.Unlent.{unlent_run}
use Rattle.room_model.proofs.isolation_laws.where_nobody_lends_nothing_crosses.Goals as goal

pub returns-clause-stays : goal.returns-clause-stays
returns-clause-stays g es r w known u n = (unlent_run es r w known u n).1

pub returns-clause-crosses : goal.returns-clause-crosses
returns-clause-crosses g d es r w known u n = run_everyday d es r (unlent_run es r w known u n).0
