use Rattle.std.proofs.Common.{arith, ap, length-append, ◌++◌, take}
use Rattle.std.proofs.KnownBytes.{Consumes-trans}
use Rattle.std.proofs.lemmas.List.{length-take-le}
use Rattle.dispatch_room_sockets.proofs.acceptors.Client.throw_away.Goals as goal

pub loop-piece-preserved : goal.loop-piece-preserved
loop-piece-preserved g c =
    let i = c.loop-piece.invariant in
    let piece = take c.in-Ok.field-0 c.receive.new.buf in
    let given = rw c.in-Ok.is at c.receive.ensures.bytes in
    let fits = rw c.in-Ok.is at c.receive.ensures.bound in
    record {
      thrown = (
        i.thrown.0 ++ piece,
        Consumes-trans _ _ _ _ _ i.thrown.1 given.0,
        omega (arith, length-append i.thrown.0 piece, length-take-le _ _ fits, i.thrown.2, c.in-Ok.field-0-test),
      );
      same = i.same;
    }
