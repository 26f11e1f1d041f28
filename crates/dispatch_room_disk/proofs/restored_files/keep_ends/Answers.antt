use Rattle.std.proofs.Common.{arith, [], ◌<◌}
use Rattle.dispatch_room_disk.specs.ReplacingSteps.{kept}
use Rattle.dispatch_room_disk.proofs.StepLemmas.{fails_at}
use Rattle.dispatch_room_disk.proofs.restored_files.keep_ends.Goals as goal

pub returns-in_err-keep : goal.returns-in_err-keep
returns-in_err-keep g c =
    let few : c.loop-end.end-index < 3 = omega arith in
    fails_at (λ end. kept c.args.path.now c.args.number end.now) _ _ _ [] _ _ _
    c.from_residual.result _ few c.loop-end.invariant c.from_residual.ensures.1
    c.in_err-keep.ensures.done
