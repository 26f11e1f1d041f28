use Rattle.std.specs.Io.KnownBytes.{Keeps}
use Rattle.dispatch_room_sockets.proofs.retries.read_until.Given as goal

abbrev pub invariant-loop-try : goal.invariant-loop-try
invariant-loop-try g l = Keeps (g.T.Read.remaining l.initial.stream) (g.T.Read.remaining l.stream)
