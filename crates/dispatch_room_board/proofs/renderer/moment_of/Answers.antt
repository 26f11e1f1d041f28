use Rattle.std.proofs.Common.{refl}
use Rattle.dispatch_room_board.proofs.Answered.{heard_at, nothing_heard}
use Rattle.dispatch_room_board.proofs.renderer.moment_of.Goals as goal

pub returns-in-Ok : goal.returns-in-Ok
returns-in-Ok c = heard_at _ _ _ _ refl c.in-Ok.ensures

pub returns-in-Err : goal.returns-in-Err
returns-in-Err c = nothing_heard _ _ c.in-Err.ensures
