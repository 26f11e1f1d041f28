use Rattle.std.proofs.KnownBytes.{Appends-kept}
use Rattle.dispatch_room_tcp.proofs.tcp_callers.print_serving.Goals as goal

pub returns-in-Ok-flush-clause-said : goal.returns-in-Ok-flush-clause-said
returns-in-Ok-flush-clause-said g c = Appends-kept _ _ _ _ c.in-Ok.ensures.bytes c.flush.ensures.bytes
