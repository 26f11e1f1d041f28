use Rattle.room_model.proofs.Runs.{run_everyday}
use Rattle.room_model.proofs.isolation_laws.without_loans_divisions_share_nothing.Goals as goal

pub returns : goal.returns
returns g d es r l = run_everyday d es r l
