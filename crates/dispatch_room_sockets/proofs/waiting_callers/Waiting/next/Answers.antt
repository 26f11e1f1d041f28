use Rattle.std.proofs.Common.{ap, arith, refl}
use Rattle.dispatch_room_sockets.proofs.HistoryLaws.{given_after, popped_given}
use Rattle.dispatch_room_sockets.proofs.RoundLaws.{rounds_given}
use Rattle.dispatch_room_sockets.proofs.TurnLaws.{given_in_turn}
use Rattle.dispatch_room_sockets.proofs.waiting_callers.Waiting.next.Goals as goal

pub returns-clause-given : goal.returns-clause-given
returns-clause-given g c =
    given_after _ _ _ _ _ _ _ _ _ _ (rounds_given _ _ c.hear.ensures.rounds)
    (popped_given _ _ _ _ _ c.pop_front.ensures.items)

pub returns-clause-rounds : goal.returns-clause-rounds
returns-clause-rounds g c = rw c.pop_front.ensures.items at c.hear.ensures.rounds

pub returns-clause-hears : goal.returns-clause-hears
returns-clause-hears g c = record {
  heard = c.hear.new.self;
  same = c.hear.ensures.stay;
  around = c.hear.ensures.around;
  gave = rw c.pop_front.ensures.items refl;
}

pub returns-clause-in_turn : goal.returns-clause-in_turn
returns-clause-in_turn g c =
    given_in_turn _ _ _ _ _ _
    (λ some.
    let stay = c.hear.ensures.stay some in
    (ap (λ w. w.ready.items) stay, ap (λ w. w.line.items) stay)) c.pop_front.ensures.items
    (λ no. omega (arith, (rw no at c.pop_front.ensures.cases).1))
