use Rattle.room_model.proofs.ClosedLaws.{class_counted}
use Rattle.room_model.proofs.closed_laws.class_times_are_times.Goals as goal

pub returns : goal.returns
returns g c d from to r = class_counted c d from to r
