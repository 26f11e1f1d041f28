use Rattle.std.proofs.Common.{[], ◌∷◌}
use Rattle.dispatch_room_disk.specs.OpeningSteps.{found}
use Rattle.dispatch_room_disk.proofs.StepLemmas.{fails, then}
use Rattle.dispatch_room_disk.proofs.openings.opened_found.Goals as goal

pub returns-in_err-find-clause-done : goal.returns-in_err-find-clause-done
returns-in_err-find-clause-done g c =
    fails (found c.args.path.now ∷ []) _ _ _ c.from_residual.result _ c.from_residual.ensures.1
    c.in_err-find.ensures.done

pub returns-clause-done : goal.returns-clause-done
returns-clause-done g c =
    then (found c.args.path.now ∷ []) _ _ _ _ _ c.in_ok-find.ensures.done c.open.ensures.done
