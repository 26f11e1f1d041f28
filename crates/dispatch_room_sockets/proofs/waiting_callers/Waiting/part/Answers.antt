use Rattle.std.proofs.Common.{arith, inl, inr, refl}
use Rattle.dispatch_room_sockets.proofs.HistoryLaws.{back_gone}
use Rattle.dispatch_room_sockets.proofs.waiting_callers.Waiting.part.Goals as goal

pub returns-in_default-clause-departs : goal.returns-in_default-clause-departs
returns-in_default-clause-departs g c = inl (refl, inl (rw c.in_default.is at c.now.ensures))

pub returns-in_default-clause-back : goal.returns-in_default-clause-back
returns-in_default-clause-back g c = back_gone _ _ _ _

pub returns-then-len-lt-MOST_KEPT-clause-departs : goal.returns-then-len-lt-MOST_KEPT-clause-departs
returns-then-len-lt-MOST_KEPT-clause-departs g c =
    let rests = rw c.from_millis.ensures at c.saturating_add.ensures in
    inr (
      c.in-Some.now,
      rw c.in-Some.is at c.now.ensures,
      (c.saturating_add.result, rests, c.push_back_reserved.ensures.items),
    )

pub returns-then-len-lt-MOST_KEPT-clause-back : goal.returns-then-len-lt-MOST_KEPT-clause-back
returns-then-len-lt-MOST_KEPT-clause-back g c = back_gone _ _ _ _

pub returns-else-len-lt-MOST_KEPT-clause-departs : goal.returns-else-len-lt-MOST_KEPT-clause-departs
returns-else-len-lt-MOST_KEPT-clause-departs g c = inl (refl, inr (omega (arith, c.len.ensures)))

pub returns-else-len-lt-MOST_KEPT-clause-back : goal.returns-else-len-lt-MOST_KEPT-clause-back
returns-else-len-lt-MOST_KEPT-clause-back g c = back_gone _ _ _ _
