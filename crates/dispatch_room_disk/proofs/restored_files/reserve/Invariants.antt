use Rattle.dispatch_room_disk.specs.FileSteps.{Does}
use Rattle.dispatch_room_disk.specs.ReplacingSteps.{taken}
use Rattle.dispatch_room_disk.proofs.restored_files.reserve.Given as goal

abbrev pub invariant-loop-number : goal.invariant-loop-number
invariant-loop-number g l =
    Does (taken l.path l.number) (g.R.Replacing.done l.initial.calls) (g.R.Replacing.done l.calls)
