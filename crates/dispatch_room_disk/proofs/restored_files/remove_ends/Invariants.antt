use Rattle.std.proofs.Common.{map, take}
use Rattle.dispatch_room_disk.specs.FileSteps.{Does}
use Rattle.dispatch_room_disk.specs.ReplacingSteps.{removed}
use Rattle.dispatch_room_disk.proofs.restored_files.remove_ends.Given as goal

abbrev pub invariant-loop-end : goal.invariant-loop-end
invariant-loop-end g l =
    Does (map (λ end. removed l.path end.now) (take l.end-index l.end-items))
    (g.R.Replacing.done l.initial.calls) (g.R.Replacing.done l.calls)
