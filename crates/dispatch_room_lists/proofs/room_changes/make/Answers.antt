use Rattle.std.proofs.Common.{arith}
use Rattle.std.proofs.lemmas.Result.{IfOk-weaker}
use Rattle.dispatch_room_lists.proofs.room_changes.make.Goals as goal

pub returns-in-Token-clause-trusted : goal.returns-in-Token-clause-trusted
returns-in-Token-clause-trusted g c =
    IfOk-weaker c.change_in.result _ _ (λ worked is clean. omega (arith, is.opening.clean, is.survives.clean, clean))
    c.change_in.ensures.changed

pub returns-in-Terminals-clause-trusted : goal.returns-in-Terminals-clause-trusted
returns-in-Terminals-clause-trusted g c =
    IfOk-weaker c.replace_in.result _ _ (λ worked is clean. omega (arith, is.opening.clean, is.survives.clean, clean))
    c.replace_in.ensures.replaced

pub returns-in-Plan-clause-trusted : goal.returns-in-Plan-clause-trusted
returns-in-Plan-clause-trusted g c =
    IfOk-weaker c.replan_in.result _ _ (λ worked is clean. omega (arith, is.opening.clean, is.survives.clean, clean))
    c.replan_in.ensures.replanned
