use Rattle.std.proofs.Common.{arith, [], ◌<◌}
use Rattle.dispatch_room_disk.specs.ReplacingSteps.{removed}
use Rattle.dispatch_room_disk.proofs.StepLemmas.{fails_at}
use Rattle.dispatch_room_disk.proofs.restored_files.remove_ends.Goals as goal

pub returns-in_err-remove : goal.returns-in_err-remove
returns-in_err-remove g c =
    let few : c.loop-end.end-index < 3 = omega arith in
    fails_at (λ end. removed c.args.path.now end.now) _ _ _ [] _ _ _ c.from_residual.result _ few
    c.loop-end.invariant c.from_residual.ensures.1 c.in_err-remove.ensures.done
