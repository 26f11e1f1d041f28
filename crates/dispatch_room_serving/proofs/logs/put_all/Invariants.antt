use Rattle.std.proofs.Common.{◌≤◌, length, take}
use Rattle.std.specs.Io.KnownBytes.{Appends}
use Rattle.dispatch_room_serving.proofs.logs.put_all.Given as goal

abbrev pub invariant-tries : goal.invariant-tries
invariant-tries g l = record {
  within : l.written ≤ length l.bytes;
  held : Appends (g.E.Write.contents l.initial.out) (g.E.Write.contents l.out) (take l.written l.bytes);
}
