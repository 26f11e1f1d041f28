-- Writes in a transaction, one after another.
use Rattle.std.proofs.Common.{◌≡◌, inl, inr, ℕ, List, false, IsTrue, Err, Ok, Result, refl, subst}
use Rattle.std.proofs.Common.{arith, rules, ◌∙◌}
use Rattle.std.specs.Prelude.{OnOk}
use Rattle.sqlite.specs.Held.{Held, state}
use Rattle.std.proofs.lemmas.Bool.{cases_Bool}
use Rattle.sqlite_value.specs.Order.{Row}
use Rattle.sqlite_trees.specs.declared.store.Store.{Ghosts}
use Rattle.sqlite_trees.specs.declared.error.StoreError.{StoreError}
use Rattle.sqlite_trees.specs.declared.error.StoreError.TheVariants.{OutOfMemory, Io, Corrupt, Full}
use Rattle.sqlite_trees.specs.declared.error.StoreError.TheVariants.{Broken, Unstorable}
use Rattle.sqlite_schema.specs.declared.schema.Constraint.{Constraint}
use Rattle.sqlite_resolve.specs.declared.compiled.Compiled.{Compiled}
use Rattle.sqlite.specs.declared.error.ErrorCode.TheVariants as code
use Rattle.sqlite.specs.declared.error.Error.{Error}
use Rattle.sqlite.specs.declared.error.Error.TheVariants.{SqliteFailure}
use Rattle.sqlite.specs.State.{State, HasCleanDisk, KeepsCommit, Survives, IsUnchanged, Fails}
use Rattle.sqlite.specs.State.{store_error, IsNotRun, RunsCommand, shows_rows, Executes, ExecutesIn}
use Rattle.sqlite.specs.State.{ExecutesInside}
use Rattle.room_tables_schema.proofs.ReadLaws.{any_err, still}
use Rattle.room_tables_schema.proofs.Refusals.{keeps_commit, keeps_then}
use Rattle.room_tables_schema.specs.Outcomes.{CommitsNothing, Inside, ReadsInside, WritesInside}
use Rattle.room_tables_schema.specs.FileConnections.{IsClean}

-- nothing was done yet
pub commits_none : {S : Type 0} {g : Ghosts S} {a : Held S} → CommitsNothing g a a
commits_none {g = g} {a = a} =
    let same : Survives (state g a) (state g a) (λ _. ⊥) = search rules in
    record { kept = λ clean. record { was_open = λ o. o; committed = λ o. (cc) }; survives = same }

module _ {S : Type 0} {g : Ghosts S} {b c : Held S} where
  write_keeps : {T E : Type 0} (r : Result T E) → WritesInside g b c r
      → (IsClean g c → OnOk r (Inside (state g b) (state g c)))
      → IsClean g c → KeepsCommit (state g b) (state g c)
  write_keeps (Ok x) wrote done clean =
      let is = done clean in record { was_open = λ _. is.was_open; committed = λ _. is.committed_is }
  write_keeps (Err e) wrote done clean = keeps_commit _ _ (wrote.err clean)

  -- a write commits nothing, whether it succeeds or fails
  pub write_commits : {T E : Type 0} (r : Result T E) → WritesInside g b c r
      → (IsClean g c → OnOk r (Inside (state g b) (state g c))) → CommitsNothing g b c
  write_commits r wrote done = record { kept = write_keeps r wrote done; survives = wrote.survives }

-- more is done
pub commits_more : {S : Type 0} {g : Ghosts S} {a b c : Held S} → CommitsNothing g a b
    → CommitsNothing g b c → CommitsNothing g a c
commits_more {g = g} {b = b} before next = record {
  kept = λ clean.
      let early : IsClean g b = omega (arith, next.survives.clean) in
      let past = before.kept early in
      let now = next.kept clean in
      record {
        was_open = λ o. past.was_open (now.was_open o);
        committed = λ o. now.committed o ∙ past.committed (now.was_open o);
      };
  survives = still before.survives next.survives;
}

-- a write that succeeded, or failed, has this outcome
module _ {S : Type 0} {g : Ghosts S} {a b : Held S} {T U E F : Type 0} where
  pub wrote : {x : T} {y : U} → WritesInside {T = T} {E = E} g a b (Ok x)
      → WritesInside {T = U} {E = F} g a b (Ok y)
  wrote h = record { err = λ clean. tt; survives = h.survives }

  pub unwritten : {e : E} {r : Result U F} → WritesInside {T = T} {E = E} g a b (Err e)
      → WritesInside g a b r
  unwritten {r = r} h = record { err = λ clean. any_err r (h.err clean); survives = h.survives }

-- after what was read in a transaction
module _ {S : Type 0} {g : Ghosts S} {a b : Held S} {T E : Type 0} where
  -- nothing is written
  pub only_read : {U F : Type 0} {x : T} {y : U} → ReadsInside {T = T} {E = E} g a b (Ok x)
      → WritesInside {T = U} {E = F} g a b (Ok y)
  only_read h = record { err = λ clean. tt; survives = h.survives }

  -- nothing is written, where the read failed
  pub unread : {U F : Type 0} {e : E} {r : Result U F} → ReadsInside {T = T} {E = E} g a b (Err e)
      → WritesInside g a b r
  unread {r = r} h = record { err = λ clean. any_err r (h.err clean); survives = h.survives }

  -- something is written
  pub read_writes : {c : Held S} {U F : Type 0} {x : T} → ReadsInside {T = T} {E = E} g a b (Ok x)
      → (r : Result U F) → WritesInside g b c r → WritesInside g a c r
  read_writes before (Ok y) h = record { err = λ clean. tt; survives = still before.survives h.survives }
  read_writes before (Err e) h = record {
    err =
        λ clean.
        let early : IsClean g b = omega (arith, h.survives.clean) in
        keeps_then _ _ _ (before.ok early) (h.err clean);
    survives = still before.survives h.survives;
  }

-- ---- a write that broke a rule of its table

no_store_error : (rule : Constraint) (cause : StoreError)
    → SqliteFailure (code.ConstraintViolation rule) ≡ store_error cause → ⊥
no_store_error rule OutOfMemory e = cc
no_store_error rule Io e = cc
no_store_error rule Corrupt e = cc
no_store_error rule Full e = cc
no_store_error rule Broken e = cc
no_store_error rule Unstorable e = cc

module _ (text : List ℕ) (params : Row) (old new : State) (rule : Constraint) where
  abbrev broken : Error
  broken = SqliteFailure (code.ConstraintViolation rule)

  unstored : {TooBig : Type 0} → Fails old new TooBig broken → IsUnchanged old new
  unstored h = absurd (no_store_error rule h.0 h.1)

  unrun : IsNotRun old new text params broken → IsUnchanged old new
  unfolding IsNotRun
  unrun (inl none) = none.1
  unrun (inr fails) = unstored fails

  uncommanded : (c : Compiled) (full : Row) → RunsCommand old new text c full (Err broken)
      → IsUnchanged old new
  uncommanded c full (inl refuses) = refuses.1
  uncommanded c full (inr fails) = unstored fails

  -- it changed nothing
  unexecuted : Executes text params old new (Err broken) → IsUnchanged old new
  unfolding ExecutesIn
  unexecuted (inl none) = unrun none
  unexecuted (inr ran) = elim (cases_Bool (shows_rows false ran.0)) [
    | inl shows ↦ (rw shows at ran.2).1
    | inr runs ↦ uncommanded ran.0 _ (rw runs at ran.2)
  ]

  unchanged : ExecutesInside 0 text params old new (Err broken) → IsUnchanged old new
  unchanged (inl ran) = unexecuted ran.0
  unchanged (inr ends) = ends.2

  -- and the transaction goes on
  pub refused : (result : Result ℕ Error) → (HasCleanDisk old → IsTrue old.in_transaction)
      → Survives old new (λ _. ⊥)
      → (HasCleanDisk new → IsTrue old.in_transaction
      → ExecutesInside 0 text params old new result)
      → result ≡ Err broken → HasCleanDisk new → IsUnchanged old new × Inside old new
  refused result begun survives runs is clean =
      let early : HasCleanDisk old = omega (arith, survives.clean) in
      let same = unchanged (subst (ExecutesInside 0 text params old new) is (runs clean (begun early))) in (
        same,
        record {
          was_open = same.0.was_open;
          is_open = same.0.is_open;
          now_is = refl;
          committed_is = same.0.committed_is;
          mode = same.0.mode ∙ begun early;
        },
      )
