use Rattle.std.proofs.Common.{arith, ◌∙◌}
use Rattle.dispatch_room_sockets.proofs.SweepLaws.{admitted_more}
use Rattle.dispatch_room_sockets.proofs.lines.admit.Goals as goal

pub loop-caller-preserved : goal.loop-caller-preserved
loop-caller-preserved g c =
    let i = c.loop-caller.invariant in
    record {
      admitted =
          admitted_more c.args.until _ _ _ _ _ _ _ _ c.in-Some.caller i.admitted c.in-Some.ensures.came
          c.push_back_reserved.ensures.items;
      same = rw i.same at c.accept.ensures.same;
      count = omega (arith, i.count, c.push_back_reserved.ensures.len);
      capacity = c.push_back_reserved.ensures.capacity ∙ i.capacity;
    }
