use Rattle.std.proofs.Common.{rules, [], ◌∷◌, ◌≡◌, true}
use Rattle.dispatch_room_disk.specs.ReplacingSteps.{looked, moving, naming}
use Rattle.dispatch_room_disk.specs.declared.aside_names.Found.TheVariants.{Other}
use Rattle.dispatch_room_disk.proofs.StepLemmas.{fails, no_ok, then}
use Rattle.dispatch_room_disk.proofs.restored_files.set_aside.Goals as goal

pub returns-in_err-is_there : goal.returns-in_err-is_there
returns-in_err-is_there g c = (
  Other 0,
  no_ok c.from_residual.result _ _ c.from_residual.ensures.1,
  (λ is. cc is),
  fails (looked c.args.path.now true ∷ []) _ _ _ c.from_residual.result _ c.from_residual.ensures.1
      c.in_err-is_there.ensures.done,
)

pub returns-in_err-number : goal.returns-in_err-number
returns-in_err-number g c =
    let there : c.in_ok-is_there.field-0 ≡ true = search rules in
    let name = c.in_err-number.ensures in (
      Other name.0,
      no_ok c.from_residual-in_err-number.result _ _ c.from_residual-in_err-number.ensures.1,
      (λ is. cc is),
      then (looked c.args.path.now true ∷ []) _ _ _ _ _ (rw there at c.in_ok-is_there.ensures.done)
          (fails (naming c.args.path.now name.0) _ _ _ c.from_residual-in_err-number.result _
          c.from_residual-in_err-number.ensures.1 name.2),
    )

pub returns-in_err-move_away : goal.returns-in_err-move_away
returns-in_err-move_away g c =
    let there : c.in_ok-is_there.field-0 ≡ true = search rules in
    let name = c.in_ok-number.ensures in (
      Other name.0,
      no_ok c.from_residual-in_err-move_away.result _ _ c.from_residual-in_err-move_away.ensures.1,
      (λ is. cc is),
      then (looked c.args.path.now true ∷ []) _ _ _ _ _ (rw there at c.in_ok-is_there.ensures.done)
          (then (naming c.args.path.now name.0) _ _ _ _ _ name.2
          (fails (moving c.args.path.now name.0) [] _ _ c.from_residual-in_err-move_away.result _
          c.from_residual-in_err-move_away.ensures.1 (rw name.1 at c.in_err-move_away.ensures))),
    )
