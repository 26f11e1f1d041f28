use Rattle.std.proofs.Common.{Err, Ok, ap}
use Rattle.dispatch_room_dry_run.proofs.standard_streams.over_streams.Goals as goal

pub returns-in-Ok : goal.returns-in-Ok
returns-in-Ok g c = (Ok c.in-Ok.end, c.ended.ensures, c.in-Ok.ensures.dialogue)

pub returns-in-Err : goal.returns-in-Err
returns-in-Err g c = (Err c.in-Err.refused_as, ap Err c.refused.ensures, tt)
