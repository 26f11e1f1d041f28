-- What a transaction leaves that was ended: committed where all went well, and undone where not.
use Rattle.std.proofs.Common.{Err, List, Ok, Result, [], ap, arith, false, inl, subst, sym, true, ℕ}
use Rattle.std.proofs.Common.{◌∙◌, ◌∷◌, ◌≡◌}
use Rattle.std.proofs.lemmas.Result.{on_err_weaker, on_ok_weaker}
use Rattle.std.specs.Prelude.{IsOk, OnErr, OnOk}
use Rattle.sqlite.specs.Effect.{Database}
use Rattle.sqlite.specs.Held.{Held, state}
use Rattle.sqlite.specs.State.{IsRolledBack, KeepsCommit, Shows, Survives}
use Rattle.sqlite.proofs.Callers.{survives_begin}
use Rattle.sqlite.proofs.StateLemmas.{survives_then}
use Rattle.sqlite_trees.specs.Tree.{Trees}
use Rattle.sqlite_trees.specs.declared.store.Store.{Ghosts}
use Rattle.room_tables_schema.specs.Outcomes.{CommitsNothing, WritesInside}
use Rattle.room_tables_schema.proofs.WriteLaws.{commits_none, write_commits}
use Rattle.room_place.specs.declared.plans.Area.{Area}
use Rattle.room_types.specs.declared.changes.Change.{Change}
use Rattle.room_model.specs.Room.{Room, apply, apply_one}
use Rattle.room_tables_schema.specs.FileConnections.{MayWrite, IsClean}
use Rattle.room_tables_schema.specs.Schema.{room_schema}
use Rattle.room_tables.specs.RoomsInTables.{Configuration, Stands}
use Rattle.room_tables.specs.Writes.{AppendsArea, Changes}
use Rattle.room_store_writes.specs.Transactions.{IsSettled, Leaves, IsCommitted, LeavesOnErr}

pub on_ok : {T E : Type 0} (r : Result T E) (P : Type 0) → P → OnOk r P
on_ok (Ok x) P p = p
on_ok (Err e) P p = tt

pub when_ok : {T E : Type 0} (r : Result T E) (P : Type 0) → IsOk r → OnOk r P → P
when_ok (Ok x) P is p = p
when_ok (Err e) P is p = absurd cc

pub ok_then : {T E : Type 0} (r : Result T E) (P Q : Type 0) → (P → Q) → OnOk r P → OnOk r Q
ok_then (Ok x) P Q f p = f p
ok_then (Err e) P Q f p = tt

-- what changed a room's tables in a transaction may be followed by more
pub may_on : {S T E : Type 0} (g : Ghosts S) (a b : Held S) (config_after : Configuration → Configuration)
    (room_after : Room → Room) (r : Result T E)
    → (IsClean g b → OnOk r (Changes (state g a) (state g b) config_after room_after))
    → OnOk r (MayWrite g b)
may_on g a b config_after room_after (Ok x) made =
    record { room = λ clean. (made clean).schema; inside = λ clean. (made clean).inside.mode }
may_on g a b config_after room_after (Err e) made = tt

module _ {S T E : Type 0} (g : Ghosts S) (a b : Held S) (config_after : Configuration → Configuration)
    (room_after : Room → Room) (r : Result T E)
    (made : IsClean g b → OnOk r (Changes (state g a) (state g b) config_after room_after)) where
  -- what changed them commits nothing
  pub put_commits : WritesInside g a b r → CommitsNothing g a b
  put_commits wrote =
      write_commits r wrote (λ clean.
      ok_then r _ _ (λ (is : Changes (state g a) (state g b) config_after room_after). is.inside) (made clean))

-- nor does the next area
pub area_commits : {S T E : Type 0} (g : Ghosts S) (a b : Held S) (at : ℕ) (area : Area)
    (r : Result T E)
    → (IsClean g b → OnOk r (AppendsArea (state g a) (state g b) at area))
    → WritesInside g a b r → CommitsNothing g a b
area_commits g a b at area r made wrote =
    write_commits r wrote
    (λ clean. ok_then r _ _ (λ (is : AppendsArea (state g a) (state g b) at area). is.inside) (made clean))

-- what holds where both went well
pub ok_both : {T E A B : Type 0} (r : Result T E) (done : Result A B) (P Q R : Type 0)
    → OnOk r (IsOk done) → OnOk r P → OnOk done Q → (IsOk done → P → Q → R) → OnOk r R
ok_both (Ok x) done P Q R is p q f = f is p (when_ok done Q is q)
ok_both (Err e) done P Q R is p q f = tt

-- Where nothing was done, a stop leaves what it could before.
pub unchanged_survives : {S : Type 0} (g : Ghosts S) (held : Held S) (P : Trees → Type 0)
    → Survives (state g held) (state g held) P
unchanged_survives g held P =
    let none : CommitsNothing g held held = commits_none in
    let same = none.survives in
    record {
      clean = same.clean;
      shield = same.shield;
      counts = same.counts;
      limit = same.limit;
      closes = same.closes;
      crash = λ clean db left. inl left;
    }

module _ {S : Type 0} (g : Ghosts S) (old last end : Held S) where
  -- A stop leaves what was before, or what was committed.
  pub ended_survives : {A B : Type 0} (done : Result A B) (P : Trees → Type 0)
      → Survives (state g (record old { in_transaction = true })) (state g last) (λ _. ⊥)
      → Survives (state g last) (state g end) (λ db. IsOk done × (db ≡ (state g last).now.trees))
      → (IsClean g last → OnOk done (P (state g last).now.trees))
      → Survives (state g old) (state g end) P
  ended_survives done P inside ended holds =
      survives_then (state g old) (state g last) (state g end) _ _ P (λ _ db none. absurd none)
      (λ clean db is.
      let early : IsClean g last = omega (arith, ended.clean) in
      subst P (sym is.1) (when_ok done (P (state g last).now.trees) is.0 (holds early)))
      (survives_begin g old (state g last) _ inside) ended

  pub undone_leaves : KeepsCommit (state g (record old { in_transaction = true })) (state g last)
      → IsRolledBack (state g last) (state g end)
      → (IsCommitted g old)
      → Leaves (state g old) (state g end)
  undone_leaves kept back settled = record {
    was_open = λ is_open. kept.was_open (back.was_open is_open);
    now_is =
        λ is_open.
        (back.undone is_open).0 ∙ kept.committed (back.was_open is_open)
        ∙ sym (settled (kept.was_open (back.was_open is_open)));
    committed_is = λ is_open. (back.undone is_open).1 ∙ kept.committed (back.was_open is_open);
  }

-- A transaction, from `old` to `end`: all that was done in it is committed, or nothing.
pub record IsWhole {S A B : Type 0} (g : Ghosts S) (old end : Held S) (result : Result A B)
    (P : Trees → Trees → Type 0) : Type 0 where
  pub ok : IsClean g end
      → OnOk result (IsClean g old × IsSettled (state g end)
      × ((state g end).now.schema ≡ room_schema)
      × P (state g old).now.trees (state g end).now.trees)
  pub err : LeavesOnErr g old end result
  pub survives : Survives (state g old) (state g end) (P (state g old).now.trees)

-- It is, where what was done left `last`, and `end` commits that where it went well, and undoes it
-- where not.
module _ {S A B C D : Type 0} (g : Ghosts S) (old begun last end : Held S) (done : Result A B)
    (result : Result C D) (P : Trees → Trees → Type 0)
    (begins : begun ≡ record old { in_transaction = true })
    (settled : IsClean g old → IsCommitted g old)
    (inside : CommitsNothing g begun last)
    (made : IsClean g last
    → OnOk done (((state g last).now.schema ≡ room_schema) × P (state g begun).now.trees (state g last).now.trees))
    (well : OnOk result (IsOk done)) (committed : IsClean g end
    → OnOk result (Shows (state g last) (state g end) (state g last).now (state g last).now false))
    (undone : IsClean g end → OnErr result (IsRolledBack (state g last) (state g end)))
    (ended : Survives (state g last) (state g end) (λ db. IsOk done × (db ≡ (state g last).now.trees))) where
  kept : CommitsNothing g (record old { in_transaction = true }) last
  kept = subst (λ h. CommitsNothing g h last) begins inside

  last_clean : IsClean g end → IsClean g last
  last_clean clean = omega (arith, ended.clean)

  old_clean : IsClean g end → IsClean g old
  old_clean clean = let early = last_clean clean in omega (arith, kept.survives.clean)

  from_old : P (state g begun).now.trees (state g last).now.trees
      → P (state g old).now.trees (state g last).now.trees
  from_old = subst (λ h. P (state g h).now.trees (state g last).now.trees) begins

  pub is_whole : IsWhole g old end result P
  is_whole = record {
    ok = λ clean. ok_both result done _ _ _ well (committed clean) (made (last_clean clean)) (λ _ is all. (
      old_clean clean,
      record { is_open = is.is_open; committed = is.committed_is ∙ sym is.now_is },
      ap (λ (db : Database). db.schema) is.now_is ∙ all.0,
      subst (λ (db : Database). P (state g old).now.trees db.trees) (sym is.now_is) (from_old all.1),
    ));
    err =
        λ clean.
        on_err_weaker result
        (λ back. undone_leaves g old last end (kept.kept (last_clean clean)) back (settled (old_clean clean)))
        (undone clean);
    survives =
        ended_survives g old last end done (P (state g old).now.trees) kept.survives ended
        (λ clean. on_ok_weaker done (λ all. from_old all.1) (made clean));
  }

-- The tables stand for a room that these changes, the last ones, take to the room that all of them
-- make.
abbrev pub StandsBefore : List Change → Configuration → Trees → Room → Type 0
StandsBefore left config db after = (mid : Room) × Stands db config mid × (apply mid left ≡ after)

-- one of them is made
pub nearer : (left more : List Change) (change : Change) (config : Configuration) (db next : Trees)
    (after : Room) → left ≡ change ∷ more
    → ((room : Room) → Stands db config room → Stands next config (apply_one room change))
    → StandsBefore left config db after → StandsBefore more config next after
nearer left more change config db next after is made before =
    (apply_one before.0 change, made before.0 before.1, sym (ap (apply before.0) is) ∙ before.2)

-- all are made
pub there : (left : List Change) (config : Configuration) (db : Trees) (after : Room) → left ≡ []
    → StandsBefore left config db after → Stands db config after
there left config db after none before = subst (Stands db config) (sym (ap (apply before.0) none) ∙ before.2) before.1
