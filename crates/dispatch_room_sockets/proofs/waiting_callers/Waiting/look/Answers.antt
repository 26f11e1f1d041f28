use Rattle.dispatch_room_sockets.proofs.HistoryLaws.{swept_in_time}
use Rattle.dispatch_room_sockets.proofs.waiting_callers.Waiting.look.Goals as goal

pub returns-clause-in_time : goal.returns-clause-in_time
returns-clause-in_time g c = swept_in_time _ _ _ _ _ _ _ _ c.look_at_all.ensures.swept
