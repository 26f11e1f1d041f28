use Rattle.std.proofs.Common.{[], ◌∷◌}
use Rattle.dispatch_room_disk.specs.OpeningSteps.{opened}
use Rattle.dispatch_room_disk.proofs.StepLemmas.{unknown}
use Rattle.dispatch_room_disk.proofs.room_files.SystemOpening.open.Goals as goal

pub returns-clause-done : goal.returns-clause-done
returns-clause-done c = unknown (opened c.args.path.now ∷ []) c.open_files.result
