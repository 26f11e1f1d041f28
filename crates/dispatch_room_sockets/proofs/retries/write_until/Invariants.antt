use Rattle.std.specs.Io.KnownBytes.{Keeps}
use Rattle.dispatch_room_sockets.proofs.retries.write_until.Given as goal

abbrev pub invariant-loop-try : goal.invariant-loop-try
invariant-loop-try g l = Keeps (g.T.Write.contents l.initial.stream) (g.T.Write.contents l.stream)
