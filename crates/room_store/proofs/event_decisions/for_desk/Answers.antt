use Rattle.std.proofs.Common.{sym, ◌∙◌}
use Rattle.std.proofs.lemmas.Result.{IfOk-weaker}
use Rattle.room_store.proofs.MoveCourses.{single_is}
use Rattle.room_store.proofs.Unavailable.{says}
use Rattle.room_store.specs.EventDecisions.{unless_unavailable}
use Rattle.room_store.proofs.event_decisions.for_desk.Goals as goal

pub returns-in-Moves-clause-decided : goal.returns-in-Moves-clause-decided
returns-in-Moves-clause-decided g c clean =
    IfOk-weaker (unless_unavailable c.decide_moves.result) _ _ (λ x is config room h formed planned known.
    rw c.in-Moves.is (is config room h formed)) (c.decide_moves.ensures.decided clean)

pub returns-in-Moves-clause-known : goal.returns-in-Moves-clause-known
returns-in-Moves-clause-known g c clean = says c.decide_moves.result _ (λ config room h formed known. known)

pub returns-in_default-clause-decided : goal.returns-in_default-clause-decided
returns-in_default-clause-decided g c clean =
    IfOk-weaker (unless_unavailable c.for_ask.result) _ _ (λ x is config room h formed planned known.
    is config room h formed planned known
    ∙ sym (single_is c.args.division c.args.event.now.ask c.args.event.now.at room c.in_default.not-Moves))
    (c.for_ask.ensures.decided clean)
