use Rattle.std.proofs.Common.{[], ◌∷◌}
use Rattle.dispatch_room_disk.specs.OpeningSteps.{begun}
use Rattle.dispatch_room_disk.proofs.StepLemmas.{unknown}
use Rattle.dispatch_room_disk.proofs.room_files.SystemOpening.begin.Goals as goal

pub returns-clause-done : goal.returns-clause-done
returns-clause-done c = unknown (begun c.args.path.now ∷ []) c.begin_in.result
