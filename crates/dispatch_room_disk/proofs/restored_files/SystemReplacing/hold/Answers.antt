use Rattle.std.proofs.Common.{[], ◌∷◌}
use Rattle.dispatch_room_disk.specs.ReplacingSteps.{held}
use Rattle.dispatch_room_disk.proofs.StepLemmas.{unknown}
use Rattle.dispatch_room_disk.proofs.restored_files.SystemReplacing.hold.Goals as goal

pub returns-clause-done : goal.returns-clause-done
returns-clause-done c = unknown (held c.args.path.now ∷ []) c.hold.result
