use Rattle.std.proofs.Common.{[], ◌∷◌}
use Rattle.dispatch_room_disk.specs.OpeningSteps.{found}
use Rattle.dispatch_room_disk.proofs.StepLemmas.{unknown}
use Rattle.dispatch_room_disk.proofs.room_files.SystemOpening.find.Goals as goal

pub returns-clause-done : goal.returns-clause-done
returns-clause-done c = unknown (found c.args.path.now ∷ []) c.found.result
