use Rattle.std.proofs.Common.{[], ◌∷◌}
use Rattle.dispatch_room_disk.specs.OpeningSteps.{made}
use Rattle.dispatch_room_disk.proofs.StepLemmas.{unknown}
use Rattle.dispatch_room_disk.proofs.room_files.SystemOpening.make.Goals as goal

pub returns-clause-done : goal.returns-clause-done
returns-clause-done c = unknown (made c.args.path.now ∷ []) c.make_private.result
