use Rattle.std.proofs.Common.{refl}
use Rattle.dispatch_room_sockets.proofs.HistoryLaws.{back_gone, back_in_line}
use Rattle.dispatch_room_sockets.proofs.TurnLaws.{first_moment}
use Rattle.dispatch_room_sockets.proofs.waiting_callers.Waiting.take_back.Goals as goal

pub returns-then-len-lt-MOST_KEPT-clause-again : goal.returns-then-len-lt-MOST_KEPT-clause-again
returns-then-len-lt-MOST_KEPT-clause-again g c = λ _. record {
  now = c.now.result;
  shown = c.now.ensures;
  until = c.saturating_add.result;
  silent = rw (c.unwrap_or-now.ensures, first_moment c.now.result _ refl) at c.saturating_add.ensures;
  behind = c.push_back_reserved.ensures.items;
}

pub returns-then-len-lt-MOST_KEPT-clause-back : goal.returns-then-len-lt-MOST_KEPT-clause-back
returns-then-len-lt-MOST_KEPT-clause-back g c = back_in_line _ _ _ _ _ c.push_back_reserved.ensures.items

pub returns-else-len-lt-MOST_KEPT-clause-back : goal.returns-else-len-lt-MOST_KEPT-clause-back
returns-else-len-lt-MOST_KEPT-clause-back g c = back_gone _ _ _ _
