use Rattle.std.proofs.Common.{IsTrue, ap, arith, inl, inr, refl, rules, subst, sym, ◌∙◌, ◌≡◌, ◌⊎◌}
use Rattle.std.proofs.lemmas.Result.{IfErr-weaker}
use Rattle.std.specs.Prelude.{IfErr, IfOk, OnOk}
use Rattle.sqlite.specs.Effect.{Database}
use Rattle.sqlite.specs.Held.{state}
use Rattle.sqlite.specs.State.{HasCleanDisk, Survives}
use Rattle.sqlite_rules.proofs.ViewLemmas.{on_ok_both}
use Rattle.room_store_writes.proofs.CommitLaws.{ended_survives, ok_both, ok_then, undone_leaves}
use Rattle.room_store_writes.proofs.CommitLaws.{when_ok}
use Rattle.room_store_file.proofs.TakeLaws.{both_errs, found_holds, found_ok, may_become, refused}
use Rattle.room_store_file.proofs.TakeLaws.{survives_less, under}
use Rattle.room_store_file.specs.OpeningCauses.{FailsAtEnd, FailsInside}
use Rattle.room_store_file.specs.OpenedFile.{Becomes, HoldsBy, IsUncommitted, MayBecome, Takes}
use Rattle.room_store_check_tables.specs.HeldRooms.{IsPlanOf, WritesNothing}
use Rattle.room_store_check_tables.specs.declared.file_faults.FileFault.TheVariants.{NotARoom}
use Rattle.room_store_check_tables.specs.declared.file_faults.FileFault.TheVariants.{Storage}
use Rattle.room_tables_schema.specs.FileConnections.{IsClean}
use Rattle.room_store_file.proofs.room_in_tables.read_room_in.Goals as goal

pub finish-requires : goal.finish-requires
finish-requires g c clean =
    ok_then c.find_room-found.result _ _ (λ may. may.inside clean) c.find_room-found.ensures.inside

pub returns-clause-room : goal.returns-clause-room
returns-clause-room g c =
    let last = state g.S.Store c.find_room-found.new.tx.conn.now in
    let end = state g.S.Store c.finish.new.tx.0 in
    let all : HasCleanDisk end → IfOk c.finish.result (IsPlanOf end.now.trees) = λ clean.
    let early : HasCleanDisk last = omega (arith, c.finish.ensures.survives.clean) in
    found_holds c.finish.result c.find_room-found.result (IsPlanOf last.now.trees) _ _ c.finish.ensures.plan
    (c.finish.ensures.ok clean) (c.find_room-found.ensures.room early)
    (λ plan shows is. subst (λ (db : Database). IsPlanOf db.trees plan) (sym shows.now_is) is) in
    search rules

pub returns-clause-takes : goal.returns-clause-takes
returns-clause-takes g c =
    let old = state g.S.Store c.args.conn.now in
    let last = state g.S.Store c.find_room-found.new.tx.conn.now in
    let end = state g.S.Store c.finish.new.tx.0 in
    let begun = c.transaction-tx.ensures.begun in
    let found = c.find_room-found.result in
    let all : HasCleanDisk end → OnOk c.finish.result (Takes c.args.tables old end) = λ clean.
    let early : HasCleanDisk last = omega (arith, c.finish.ensures.survives.clean) in
    ok_both c.finish.result found _ _ _ (found_ok c.finish.result found c.finish.ensures.plan)
    (c.finish.ensures.ok clean) (rw begun at c.find_room-found.ensures.becomes early) (λ is shows becomes. record {
      was_open = when_ok found _ is (rw begun at c.find_room-found.ensures.is_open early);
      settled = record { is_open = shows.is_open; committed = shows.committed_is ∙ sym shows.now_is };
      schema =
          ap (λ (db : Database). db.schema) shows.now_is
          ∙ (when_ok found _ is c.find_room-found.ensures.inside).room early;
      becomes = subst (λ (db : Database). Becomes c.args.tables old.now.trees db.trees) (sym shows.now_is) becomes;
    }) in
    search rules

pub returns-clause-no_room : goal.returns-clause-no_room
returns-clause-no_room g c =
    let old = state g.S.Store c.args.conn.now in
    let last = state g.S.Store c.find_room-found.new.tx.conn.now in
    let end = state g.S.Store c.finish.new.tx.0 in
    let begun = c.transaction-tx.ensures.begun in
    let all : HasCleanDisk end
    → IfErr c.finish.result (λ e. e ≡ NotARoom → ¬ HoldsBy c.args.tables old.now.trees) = λ clean.
    let early : HasCleanDisk last = omega (arith, c.finish.ensures.survives.clean) in
    let none = rw begun at c.find_room-found.ensures.no_room early in
    IfErr-weaker c.finish.result _ _
    (λ e stated is.
    refused c.find_room-found.result NotARoom (λ e. e ≡ NotARoom → ¬ HoldsBy c.args.tables old.now.trees) (stated is)
    none
    refl) c.finish.ensures.no_room in
    search rules

pub returns-clause-why : goal.returns-clause-why
returns-clause-why g c =
    let old = c.args.conn.now in
    let last = c.find_room-found.new.tx.conn.now in
    let end = c.finish.new.tx.0 in
    let begun = c.transaction-tx.ensures.begun in
    let found = c.find_room-found.result in
    let all : IsClean g.S.Store end
    → IfErr c.finish.result
    (λ e. e ≡ Storage → FailsInside g.S.Store c.args.tables old end ⊎ FailsAtEnd g.S.Store c.args.tables old end) =
    λ clean.
    let early : IsClean g.S.Store last = omega (arith, c.finish.ensures.survives.clean) in
    let why = rw begun at c.find_room-found.ensures.why early in
    both_errs c.finish.result _ _ _ (c.finish.ensures.why clean) (c.finish.ensures.err clean)
    (λ e stated back storage. elim stated [
      | inl is ↦
          inl (record {
            last = last;
            fails = refused found e _ is why storage;
            undone = back;
            until = c.finish.ensures.survives.counts;
          })
      | inr none ↦
          inr (record {
            last = last;
            commits = rw begun at c.find_room-found.ensures.commits;
            fails = subst (IsUncommitted (state g.S.Store last) (state g.S.Store end)) storage none;
          })
    ]) in
    search rules

pub returns-clause-leaves : goal.returns-clause-leaves
returns-clause-leaves g c =
    let old = c.args.conn.now in
    let last = c.find_room-found.new.tx.conn.now in
    let end = c.finish.new.tx.0 in
    let begun = c.transaction-tx.ensures.begun in
    let all = λ (clean : IsClean g.S.Store end).
    let early : IsClean g.S.Store last = omega (arith, c.finish.ensures.survives.clean) in
    IfErr-weaker c.finish.result _ _
    (λ _ back.
    undone_leaves g.S.Store old last end (rw begun at c.find_room-found.ensures.commits.kept early) back
    c.requires.committed) (c.finish.ensures.err clean) in
    search rules

pub returns-clause-untouched : goal.returns-clause-untouched
returns-clause-untouched g c =
    let old = c.args.conn.now in
    let last = c.find_room-found.new.tx.conn.now in
    let end = c.finish.new.tx.0 in
    let begun = c.transaction-tx.ensures.begun in
    let found = c.find_room-found.result in
    let all : IfErr c.finish.result (λ e. e ≡ NotARoom → WritesNothing (state g.S.Store old) (state g.S.Store end)) =
    both_errs c.finish.result _ _ _ c.finish.ensures.no_room (under c.finish.result _ _ c.finish.ensures.err)
    (λ e stated back is. record {
      left = λ clean.
          let early : IsClean g.S.Store last = omega (arith, c.finish.ensures.survives.clean) in
          undone_leaves g.S.Store old last end (rw begun at c.find_room-found.ensures.commits.kept early) (back clean)
          c.requires.committed;
      survives =
          ended_survives g.S.Store old last end found (λ _. ⊥) (rw begun at c.find_room-found.ensures.commits.survives)
          c.finish.ensures.survives (λ _. subst (λ f. OnOk f ⊥) (sym (stated is)) tt);
    }) in
    search rules

pub returns-clause-survives : goal.returns-clause-survives
returns-clause-survives g c =
    let old = c.args.conn.now in
    let first = state g.S.Store old in
    let last = c.find_room-found.new.tx.conn.now in
    let end = c.finish.new.tx.0 in
    let begun = c.transaction-tx.ensures.begun in
    let found = c.find_room-found.result in
    let all : Survives first (state g.S.Store end) (MayBecome c.args.tables first.now.trees) =
    survives_less first (state g.S.Store end) (λ db. IsTrue first.is_open × Becomes c.args.tables first.now.trees db) _
    (λ db left. may_become c.args.tables first db (g.met.S.Store.stays old.store) c.requires.committed left.0 left.1)
    (ended_survives g.S.Store old last end found _ (rw begun at c.find_room-found.ensures.commits.survives)
    c.finish.ensures.survives
    (λ clean.
    on_ok_both found (λ is_open becomes. (is_open, becomes)) (rw begun at c.find_room-found.ensures.is_open clean)
    (rw begun at c.find_room-found.ensures.becomes clean))) in
    search rules
