use Rattle.std.proofs.Common.{rules, [], ◌∷◌, ◌++◌, ◌≡◌, List, Option, Result, false, refl, sym}
use Rattle.std.proofs.Common.{subst, true, ℕ}
use Rattle.std.specs.Prelude.{◌≢◌}
use Rattle.dispatch_room_disk.specs.FileSteps.{Follows}
use Rattle.dispatch_room_disk.specs.ReplacingSteps.{Step, compared, copied, put, putting}
use Rattle.dispatch_room_disk.specs.ReplacingSteps.{setting_aside, synced}
use Rattle.dispatch_room_disk.specs.declared.aside_names.Found.{Found}
use Rattle.dispatch_room_disk.specs.declared.aside_names.Found.TheVariants.{Copy, Nothing, Other}
use Rattle.dispatch_room_disk.proofs.StepLemmas.{fails, no_ok, then}
use Rattle.dispatch_room_disk.proofs.restored_files.put_copy.Goals as goal

-- where the copy's room is not there, it is put there
put_there : {T E : Type 0} (copy path : List ℕ) (found : Found) (old now : Option (List Step)) (r : Result T E)
    → found ≢ Copy
    → Follows
    (compared copy path false ∷ copied copy path ∷ setting_aside path found ++ put path ∷ synced path ∷ []) old now r
    → Follows (putting copy path found) old now r
put_there copy path Copy old now r other done = absurd (other refl)
put_there copy path Nothing old now r other done = done
put_there copy path (Other number) old now r other done = done

pub returns-in_err-sync : goal.returns-in_err-sync
returns-in_err-sync g c =
    let there : c.has_copy.result ≡ true = search rules in (
      Copy,
      no_ok c.from_residual.result _ _ c.from_residual.ensures.1,
      then (compared c.args.copy.now c.args.path.now true ∷ []) _ _ _ _ _ (rw there at c.has_copy.ensures.done)
          (fails (synced c.args.path.now ∷ []) [] _ _ c.from_residual.result _ c.from_residual.ensures.1
          c.in_err-sync.ensures.done),
    )

pub returns-in_err-copy : goal.returns-in_err-copy
returns-in_err-copy g c =
    let none : c.has_copy.result ≡ false = search rules in (
      Nothing,
      no_ok c.from_residual-in_err-copy.result _ _ c.from_residual-in_err-copy.ensures.1,
      then (compared c.args.copy.now c.args.path.now false ∷ []) _ _ _ _ _ (rw none at c.has_copy.ensures.done)
          (fails (copied c.args.copy.now c.args.path.now ∷ []) _ _ _ c.from_residual-in_err-copy.result _
          c.from_residual-in_err-copy.ensures.1 c.in_err-copy.ensures.done),
    )

pub returns-in_err-found : goal.returns-in_err-found
returns-in_err-found g c =
    let none : c.has_copy.result ≡ false = search rules in
    let aside = c.in_err-found.ensures in (
      aside.0,
      no_ok c.from_residual-in_err-found.result _ _ c.from_residual-in_err-found.ensures.1,
      put_there c.args.copy.now c.args.path.now aside.0 _ _ _ aside.2
          (then (compared c.args.copy.now c.args.path.now false ∷ []) _ _ _ _ _ (rw none at c.has_copy.ensures.done)
          (then (copied c.args.copy.now c.args.path.now ∷ []) _ _ _ _ _ c.in_ok-copy.ensures.done
          (fails (setting_aside c.args.path.now aside.0) _ _ _ c.from_residual-in_err-found.result _
          c.from_residual-in_err-found.ensures.1 aside.3))),
    )

pub returns-in_err-put : goal.returns-in_err-put
returns-in_err-put g c =
    let none : c.has_copy.result ≡ false = search rules in
    let aside = c.in_ok-found.ensures in (
      aside.0,
      no_ok c.from_residual-in_err-put.result _ _ c.from_residual-in_err-put.ensures.1,
      put_there c.args.copy.now c.args.path.now aside.0 _ _ _ aside.2
          (then (compared c.args.copy.now c.args.path.now false ∷ []) _ _ _ _ _ (rw none at c.has_copy.ensures.done)
          (then (copied c.args.copy.now c.args.path.now ∷ []) _ _ _ _ _ c.in_ok-copy.ensures.done
          (then (setting_aside c.args.path.now aside.0) _ _ _ _ _ aside.3
          (fails (put c.args.path.now ∷ []) _ _ _ c.from_residual-in_err-put.result _
          c.from_residual-in_err-put.ensures.1 c.in_err-put.ensures.done)))),
    )

pub returns-in_err-sync-2 : goal.returns-in_err-sync-2
returns-in_err-sync-2 g c =
    let none : c.has_copy.result ≡ false = search rules in
    let aside = c.in_ok-found.ensures in (
      aside.0,
      no_ok c.from_residual-in_err-sync-2.result _ _ c.from_residual-in_err-sync-2.ensures.1,
      put_there c.args.copy.now c.args.path.now aside.0 _ _ _ aside.2
          (then (compared c.args.copy.now c.args.path.now false ∷ []) _ _ _ _ _ (rw none at c.has_copy.ensures.done)
          (then (copied c.args.copy.now c.args.path.now ∷ []) _ _ _ _ _ c.in_ok-copy.ensures.done
          (then (setting_aside c.args.path.now aside.0) _ _ _ _ _ aside.3
          (then (put c.args.path.now ∷ []) _ _ _ _ _ c.in_ok-put.ensures.done
          (fails (synced c.args.path.now ∷ []) [] _ _ c.from_residual-in_err-sync-2.result _
          c.from_residual-in_err-sync-2.ensures.1 c.in_err-sync-2.ensures.done))))),
    )
