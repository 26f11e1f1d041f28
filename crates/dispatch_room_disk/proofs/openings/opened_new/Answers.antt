use Rattle.std.proofs.Common.{[], ◌∷◌}
use Rattle.dispatch_room_disk.specs.OpeningSteps.{begun, made}
use Rattle.dispatch_room_disk.proofs.StepLemmas.{fails, then}
use Rattle.dispatch_room_disk.proofs.openings.opened_new.Goals as goal

pub returns-in_err-make-clause-done : goal.returns-in_err-make-clause-done
returns-in_err-make-clause-done g c =
    fails (made c.args.path.now ∷ []) _ _ _ c.from_residual.result _ c.from_residual.ensures.1
    c.in_err-make.ensures.done

pub returns-in_err-begin-clause-done : goal.returns-in_err-begin-clause-done
returns-in_err-begin-clause-done g c =
    then (made c.args.path.now ∷ []) _ _ _ _ _ c.in_ok-make.ensures.done
    (fails (begun c.args.path.now ∷ []) _ _ _ c.from_residual-in_err-begin.result _
    c.from_residual-in_err-begin.ensures.1 c.in_err-begin.ensures.done)

pub returns-clause-done : goal.returns-clause-done
returns-clause-done g c =
    then (made c.args.path.now ∷ []) _ _ _ _ _ c.in_ok-make.ensures.done
    (then (begun c.args.path.now ∷ []) _ _ _ _ _ c.in_ok-begin.ensures.done c.open.ensures.done)
