use Rattle.std.proofs.Common.{[], ◌∷◌, ◌++◌, ◌≡◌, Err, IfErr, List, Ok, OnOk, Option, Result, IsOk}
use Rattle.std.proofs.Common.{refl, subst, suc, sym, zero, ℕ}
use Rattle.std.specs.List.{AllByRecursion}
use Rattle.std.specs.Result.{IfOk, IsErrAnd}
use Rattle.dispatch_room_exit.specs.declared.exit_status.Failure.{Failure}
use Rattle.dispatch_room_disk.specs.DiskFaults.{IsFileFault}
use Rattle.dispatch_room_disk.specs.FileSteps.{Follows, FollowsFor}
use Rattle.dispatch_room_disk.specs.ReplacingSteps.{IsFaultOf, Step, distinguished, held, moving}
use Rattle.dispatch_room_disk.specs.ReplacingSteps.{put, putting, synced, taken}
use Rattle.dispatch_room_disk.specs.declared.aside_names.Found.{Found}
use Rattle.dispatch_room_disk.specs.declared.aside_names.Found.TheVariants.{Copy, Nothing, Other}
use Rattle.dispatch_room_disk.proofs.StepLemmas.{all_append, fails_for, no_ok, reported, then_for}
use Rattle.dispatch_room_disk.proofs.restored_files.put_in_place.Goals as goal

each_taken : (path : List ℕ) (number : ℕ) (fault : Failure) → IsFileFault fault
    → AllByRecursion (λ it. IsFaultOf it fault) (taken path number)
each_taken path zero fault is = tt
each_taken path (suc number) fault is =
    all_append (λ it. IsFaultOf it fault) (taken path number) _ (each_taken path number fault is) (is, tt)

-- each step by which the copy is put may fail as files do
each_file : (copy path : List ℕ) (found : Found) (r : Result Found Failure) → IfErr r IsFileFault
    → IfErr r (λ fault. AllByRecursion (λ it. IsFaultOf it fault) (putting copy path found))
each_file copy path found (Ok done) is = tt
each_file copy path Copy (Err fault) is = (is, (is, tt))
each_file copy path Nothing (Err fault) is = (is, (is, (is, (is, (is, tt)))))
each_file copy path (Other number) (Err fault) is = (
  is,
  (
    is,
    (
      is,
      all_append (λ it. IsFaultOf it fault) _ (put path ∷ synced path ∷ [])
          (all_append (λ it. IsFaultOf it fault) _ (moving path number)
          (all_append (λ it. IsFaultOf it fault) (taken path number) _ (each_taken path number fault is) (is, tt))
          (is, (is, (is, (is, (is, (is, (is, (is, (is, (is, tt))))))))))) (is, (is, tt)),
    ),
  ),
)

good : {T E F : Type 0} (r : Result T E) (s : Result T F) → IfOk r (λ it. s ≡ Ok it) → OnOk r (IsOk s)
good (Ok it) s same = subst IsOk (sym same) refl
good (Err error) s same = tt

as_found : {T E F : Type 0} (r : Result T E) (s : Result T F) (found : T) (P : E → F → Type 0)
    → IfOk r (λ it. it ≡ found) → IfOk r (λ it. s ≡ Ok it) → IfErr r (λ error. IsErrAnd s (P error))
    → IfOk s (λ it. it ≡ found)
as_found (Ok it) s found P is same bad = subst (λ s. IfOk s (λ it. it ≡ found)) (sym same) is
as_found (Err error) s found P is same bad = no_ok s (P error) _ bad

-- what came of putting the copy, whatever was found
reported_putting : {E : Type 0} (copy path : List ℕ) (found : Found) (a b : Option (List Step)) (r : Result Found E)
    (s : Result Found Failure) (P : E → Failure → Type 0) → OnOk r (IsOk s) → IfErr r (λ error. IsErrAnd s (P error))
    → IfErr s (λ fault. AllByRecursion (λ it. IsFaultOf it fault) (putting copy path found))
    → Follows (putting copy path found) a b r → FollowsFor IsFaultOf (putting copy path found) a b s
reported_putting copy path Copy a b r s P = reported IsFaultOf _ _ a b r s P
reported_putting copy path Nothing a b r s P = reported IsFaultOf _ _ a b r s P
reported_putting copy path (Other number) a b r s P = reported IsFaultOf _ _ a b r s P

pub returns-in_err-distinguish : goal.returns-in_err-distinguish
returns-in_err-distinguish g c = (
  Nothing,
  no_ok c.from_residual.result _ _ c.from_residual.ensures.1,
  fails_for IsFaultOf (distinguished c.args.copy.now c.args.path.now) _ _ _ c.from_residual.result _
      c.from_residual.ensures.1 (λ fault is. rw is c.in_err-distinguish.ensures.fault)
      c.in_err-distinguish.ensures.done,
)

pub returns-in_err-held : goal.returns-in_err-held
returns-in_err-held g c = (
  Nothing,
  no_ok c.from_residual-in_err-held.result _ _ c.from_residual-in_err-held.ensures.1,
  then_for IsFaultOf (distinguished c.args.copy.now c.args.path.now ∷ []) _ _ _ _ _ c.in_ok-distinguish.ensures.done
      (fails_for IsFaultOf (held c.args.path.now) _ _ _ c.from_residual-in_err-held.result _
      c.from_residual-in_err-held.ensures.1 (λ fault is. rw is c.in_err-held.ensures.fault)
      c.in_err-held.ensures.done),
)

pub returns : goal.returns
returns g c =
    let put = c.put_copy-put.ensures in
    let said = c.put_by.ensures in (
      put.0,
      as_found c.put_copy-put.result c.put_by.result put.0 _ put.1 said.done said.fault,
      then_for IsFaultOf (distinguished c.args.copy.now c.args.path.now ∷ []) _ _ _ _ _
          c.in_ok-distinguish.ensures.done
          (then_for IsFaultOf (held c.args.path.now ∷ []) _ _ _ _ _ c.in_ok-held.ensures.done
          (reported_putting c.args.copy.now c.args.path.now put.0 _ _ c.put_copy-put.result c.put_by.result _
          (good c.put_copy-put.result c.put_by.result said.done) said.fault
          (each_file c.args.copy.now c.args.path.now put.0 c.put_by.result said.file) put.2)),
    )
