use Rattle.std.proofs.Common.{[], ◌∷◌, map}
use Rattle.dispatch_room_disk.specs.ReplacingSteps.{ends, kept, removed, set_aside, synced}
use Rattle.dispatch_room_disk.proofs.StepLemmas.{fails, then}
use Rattle.dispatch_room_disk.proofs.restored_files.move_away.Goals as goal

pub returns-in_err-keep_ends : goal.returns-in_err-keep_ends
returns-in_err-keep_ends g c =
    fails (map (kept c.args.path.now c.args.number) ends) _ _ _ c.from_residual.result _
    c.from_residual.ensures.1 c.in_err-keep_ends.ensures

pub returns-in_err-sync : goal.returns-in_err-sync
returns-in_err-sync g c =
    then (map (kept c.args.path.now c.args.number) ends) _ _ _ _ _ c.in_ok-keep_ends.ensures
    (fails (synced c.args.path.now ∷ []) _ _ _ c.from_residual-in_err-sync.result _
    c.from_residual-in_err-sync.ensures.1 c.in_err-sync.ensures.done)

pub returns-in_err-set_aside : goal.returns-in_err-set_aside
returns-in_err-set_aside g c =
    then (map (kept c.args.path.now c.args.number) ends) _ _ _ _ _ c.in_ok-keep_ends.ensures
    (then (synced c.args.path.now ∷ []) _ _ _ _ _ c.in_ok-sync.ensures.done
    (fails (set_aside c.args.path.now c.args.number ∷ []) _ _ _ c.from_residual-in_err-set_aside.result _
    c.from_residual-in_err-set_aside.ensures.1 c.in_err-set_aside.ensures.done))

pub returns-in_err-sync-2 : goal.returns-in_err-sync-2
returns-in_err-sync-2 g c =
    then (map (kept c.args.path.now c.args.number) ends) _ _ _ _ _ c.in_ok-keep_ends.ensures
    (then (synced c.args.path.now ∷ []) _ _ _ _ _ c.in_ok-sync.ensures.done
    (then (set_aside c.args.path.now c.args.number ∷ []) _ _ _ _ _ c.in_ok-set_aside.ensures.done
    (fails (synced c.args.path.now ∷ []) _ _ _ c.from_residual-in_err-sync-2.result _
    c.from_residual-in_err-sync-2.ensures.1 c.in_err-sync-2.ensures.done)))

pub returns-in_err-remove_ends : goal.returns-in_err-remove_ends
returns-in_err-remove_ends g c =
    then (map (kept c.args.path.now c.args.number) ends) _ _ _ _ _ c.in_ok-keep_ends.ensures
    (then (synced c.args.path.now ∷ []) _ _ _ _ _ c.in_ok-sync.ensures.done
    (then (set_aside c.args.path.now c.args.number ∷ []) _ _ _ _ _ c.in_ok-set_aside.ensures.done
    (then (synced c.args.path.now ∷ []) _ _ _ _ _ c.in_ok-sync-2.ensures.done
    (fails (map (removed c.args.path.now) ends) _ _ _ c.from_residual-in_err-remove_ends.result _
    c.from_residual-in_err-remove_ends.ensures.1 c.in_err-remove_ends.ensures))))

pub returns : goal.returns
returns g c =
    then (map (kept c.args.path.now c.args.number) ends) _ _ _ _ _ c.in_ok-keep_ends.ensures
    (then (synced c.args.path.now ∷ []) _ _ _ _ _ c.in_ok-sync.ensures.done
    (then (set_aside c.args.path.now c.args.number ∷ []) _ _ _ _ _ c.in_ok-set_aside.ensures.done
    (then (synced c.args.path.now ∷ []) _ _ _ _ _ c.in_ok-sync-2.ensures.done
    (then (map (removed c.args.path.now) ends) _ _ _ _ _ c.in_ok-remove_ends.ensures
    c.sync-3.ensures.done))))
