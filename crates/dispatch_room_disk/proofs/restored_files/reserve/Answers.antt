use Rattle.std.proofs.Common.{[], ◌∷◌, true}
use Rattle.dispatch_room_disk.specs.ReplacingSteps.{reserved, taken}
use Rattle.dispatch_room_disk.proofs.StepLemmas.{fails, no_ok, then}
use Rattle.dispatch_room_disk.proofs.restored_files.reserve.Goals as goal

pub returns-in_err-reserve : goal.returns-in_err-reserve
returns-in_err-reserve g c = (
  c.loop-number.number,
  no_ok c.from_residual.result _ _ c.from_residual.ensures.1,
  then (taken c.args.path.now c.loop-number.number) _ _ _ _ _ c.loop-number.invariant
      (fails (reserved c.args.path.now c.loop-number.number true ∷ []) [] _ _ c.from_residual.result _
      c.from_residual.ensures.1 c.in_err-reserve.ensures.done),
)
