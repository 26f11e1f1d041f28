use Rattle.std.proofs.Common.{take}
use Rattle.dispatch_room_archive.specs.CalledIncidents.{AreCalled}
use Rattle.dispatch_room_archive.proofs.called_incidents.Called.since.Given as goal

abbrev pub invariant-loop-at : goal.invariant-loop-at
invariant-loop-at l = AreCalled l.moment l.fn.calls (take l.at l.fn.calls) l.incidents
