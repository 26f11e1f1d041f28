use Rattle.std.proofs.Common.{◌∙◌, arith, inl, inr, subst, sym, true≢false}
use Rattle.std.proofs.lemmas.Result.{IfErr-weaker}
use Rattle.sqlite.specs.Effect.{Database}
use Rattle.sqlite.specs.Held.{state}
use Rattle.sqlite.specs.State.{HasCleanDisk}
use Rattle.sqlite.proofs.StateLemmas.{survives_then}
use Rattle.room_tables_schema.proofs.ReadLaws.{any_err}
use Rattle.room_tables_schema.specs.Versions.{HasFirstTables}
use Rattle.room_store_writes.proofs.CommitLaws.{on_ok, ok_then}
use Rattle.room_store_file.proofs.FileLaws.{left_left, looked_on, moves_before}
use Rattle.room_store_check_tables.proofs.StreamLaws.{nothing_then}
use Rattle.room_store_file.proofs.TakeLaws.{any_fault, both_errs, first_is_old, none_opened}
use Rattle.room_store_file.proofs.TakeLaws.{survives_less}
use Rattle.room_store_check_tables.proofs.Findings.{none_found, none_ok}
use Rattle.room_store_file.specs.OpenedFile.{HoldsFirstRoom, IsOldRoom, MayBeMoved}
use Rattle.room_tables_schema.specs.FileConnections.{IsClean}
use Rattle.room_store_file.proofs.migrated_file.migrate_in.Goals as goal

pub returns-clause-moves : goal.returns-clause-moves
returns-clause-moves g c clean =
    let old = state g.S.Store c.args.conn.now in
    let mid = state g.S.Store c.is_room_of-2.new.conn in
    let early : HasCleanDisk mid = omega (arith, c.move_tables.ensures.survives.clean) in
    let same = looked_on old (state g.S.Store c.is_room_of.new.conn) mid c.is_room_of-2.ensures.nothing
    c.in_ok-is_room_of.ensures.ok c.in_ok-is_room_of-2.ensures.ok early in
    ok_then c.move_tables.result _ _ (moves_before old mid (state g.S.Store c.move_tables.new.conn) same)
    (c.move_tables.ensures.moves clean)

pub returns-clause-leaves : goal.returns-clause-leaves
returns-clause-leaves g c clean =
    let old = state g.S.Store c.args.conn.now in
    let mid = state g.S.Store c.is_room_of-2.new.conn in
    let early : HasCleanDisk mid = omega (arith, c.move_tables.ensures.survives.clean) in
    let looked = nothing_then old (state g.S.Store c.is_room_of.new.conn) mid c.is_room_of.ensures.nothing
    c.is_room_of-2.ensures.nothing in
    IfErr-weaker c.move_tables.result _ _
    (λ _ left. left_left old mid (state g.S.Store c.move_tables.new.conn) (looked.left early) left)
    (c.move_tables.ensures.leaves clean)

pub returns-clause-no_room : goal.returns-clause-no_room
returns-clause-no_room g c clean =
    let mid = state g.S.Store c.is_room_of-2.new.conn in
    let early : HasCleanDisk mid = omega (arith, c.move_tables.ensures.survives.clean) in
    let same = sym
    (looked_on (state g.S.Store c.args.conn.now) (state g.S.Store c.is_room_of.new.conn) mid
    c.is_room_of-2.ensures.nothing c.in_ok-is_room_of.ensures.ok c.in_ok-is_room_of-2.ensures.ok early) in
    IfErr-weaker c.move_tables.result _ _
    (λ e none is tables holds.
    none is (subst (λ (db : Database). HasFirstTables db.schema) same tables)
    (subst (λ (db : Database). HoldsFirstRoom db.trees) same holds)) (c.move_tables.ensures.no_room clean)

pub returns-clause-survives : goal.returns-clause-survives
returns-clause-survives g c =
    let old = state g.S.Store c.args.conn.now in
    let first = state g.S.Store c.is_room_of.new.conn in
    let mid = state g.S.Store c.is_room_of-2.new.conn in
    survives_then old mid (state g.S.Store c.move_tables.new.conn) _ _ (MayBeMoved old.now) (λ _ db none. absurd none)
    (λ clean db left.
    let early : HasCleanDisk mid = omega (arith, c.move_tables.ensures.survives.clean) in
    subst (λ (was : Database). MayBeMoved was db)
    (looked_on old first mid c.is_room_of-2.ensures.nothing c.in_ok-is_room_of.ensures.ok
    c.in_ok-is_room_of-2.ensures.ok early) left)
    (nothing_then old first mid c.is_room_of.ensures.nothing c.is_room_of-2.ensures.nothing).survives
    c.move_tables.ensures.survives

pub returns-clause-old_room : goal.returns-clause-old_room
returns-clause-old_room g c clean =
    let early : HasCleanDisk (state g.S.Store c.is_room_of-2.new.conn) = omega
    (arith, c.move_tables.ensures.survives.clean) in
    let before : IsClean g.S.Store c.is_room_of.new.conn = omega
    (arith, early, c.is_room_of-2.ensures.nothing.survives.clean) in
    on_ok _ _ (subst IsOldRoom (c.in_ok-is_room_of.ensures.ok before)
    ((c.in_ok-is_room_of-2.ensures.test early).0 c.if-not-branch.false))

pub returns-clause-not_old : goal.returns-clause-not_old
returns-clause-not_old g c clean =
    let early : HasCleanDisk (state g.S.Store c.is_room_of-2.new.conn) = omega
    (arith, c.move_tables.ensures.survives.clean) in
    let before : IsClean g.S.Store c.is_room_of.new.conn = omega
    (arith, early, c.is_room_of-2.ensures.nothing.survives.clean) in
    let stated = c.in_ok-is_room_of.ensures.test before in
    IfErr-weaker c.move_tables.result _ _
    (λ e other. (λ is. absurd (other is), λ is new. absurd (true≢false (sym (stated.1 new) ∙ c.if-branch.false))))
    c.move_tables.ensures.is_old

pub returns-clause-untouched : goal.returns-clause-untouched
returns-clause-untouched g c =
    let old = state g.S.Store c.args.conn.now in
    let first = state g.S.Store c.is_room_of.new.conn in
    let mid = state g.S.Store c.is_room_of-2.new.conn in
    both_errs c.move_tables.result _ _ _ c.move_tables.ensures.is_old c.move_tables.ensures.untouched
    (λ e other none is. elim is [
      | inl new ↦ absurd (other new)
      | inr other_is ↦
          nothing_then old mid (state g.S.Store c.move_tables.new.conn)
          (nothing_then old first mid c.is_room_of.ensures.nothing c.is_room_of-2.ensures.nothing) (none other_is)
    ])

pub returns-then-not-branch-clause-not_old : goal.returns-then-not-branch-clause-not_old
returns-then-not-branch-clause-not_old g c clean =
    let before : IsClean g.S.Store c.is_room_of.new.conn = omega
    (arith, clean, c.is_room_of-2.ensures.nothing.survives.clean) in
    let stated = c.in_ok-is_room_of.ensures.test before in
    (λ is. cc, λ is new. true≢false (sym (stated.1 new) ∙ c.if-branch.false))

pub returns-then-not-branch-clause-no_room : goal.returns-then-not-branch-clause-no_room
returns-then-not-branch-clause-no_room g c clean is has holds =
    let before : IsClean g.S.Store c.is_room_of.new.conn = omega
    (arith, clean, c.is_room_of-2.ensures.nothing.survives.clean) in
    let stated = c.in_ok-is_room_of-2.ensures.test clean in
    let was = first_is_old (state g.S.Store c.args.conn.now).now has holds in
    true≢false
    (sym (stated.1 (subst IsOldRoom (sym (c.in_ok-is_room_of.ensures.ok before)) was)) ∙ c.if-not-branch.true)

pub returns-then-not-branch-clause-leaves : goal.returns-then-not-branch-clause-leaves
returns-then-not-branch-clause-leaves g c clean =
    (nothing_then (state g.S.Store c.args.conn.now) (state g.S.Store c.is_room_of.new.conn)
    (state g.S.Store c.is_room_of-2.new.conn) c.is_room_of.ensures.nothing c.is_room_of-2.ensures.nothing).left clean

pub returns-then-not-branch-clause-untouched : goal.returns-then-not-branch-clause-untouched
returns-then-not-branch-clause-untouched g c is =
    nothing_then (state g.S.Store c.args.conn.now) (state g.S.Store c.is_room_of.new.conn)
    (state g.S.Store c.is_room_of-2.new.conn) c.is_room_of.ensures.nothing c.is_room_of-2.ensures.nothing

pub returns-in_err-is_room_of : goal.returns-in_err-is_room_of
returns-in_err-is_room_of g c =
    let old = state g.S.Store c.args.conn.now in
    let failed = c.from_residual.ensures in
    let looked = c.is_room_of.ensures.nothing in
    record {
      room = λ clean. none_found _ _ failed.0;
      moves = λ clean. none_ok _ _ failed.0;
      old_room = λ clean. none_ok _ _ failed.0;
      leaves = λ clean. any_err c.from_residual.result (looked.left clean);
      not_old =
          λ clean.
          IfErr-weaker c.from_residual.result _ _ (λ e other. (λ is. absurd (other.0 is), λ is. absurd (other.1 is)))
          (none_opened _ c.in_err-is_room_of.field-0.0 failed.1);
      no_room =
          λ clean.
          IfErr-weaker c.from_residual.result _ _ (λ e other is. absurd (other.1 is))
          (none_opened _ c.in_err-is_room_of.field-0.0 failed.1);
      untouched = any_fault c.from_residual.result _ (λ e _. looked);
      ended = c.is_room_of.ensures.ended;
      survives =
          survives_less old (state g.S.Store c.is_room_of.new.conn) (λ _. ⊥) (MayBeMoved old.now)
          (λ db none. absurd none) looked.survives;
    }

pub returns-in_err-is_room_of-2 : goal.returns-in_err-is_room_of-2
returns-in_err-is_room_of-2 g c =
    let old = state g.S.Store c.args.conn.now in
    let failed = c.from_residual-in_err-is_room_of-2.ensures in
    let looked = nothing_then old (state g.S.Store c.is_room_of.new.conn) (state g.S.Store c.is_room_of-2.new.conn)
    c.is_room_of.ensures.nothing c.is_room_of-2.ensures.nothing in
    record {
      room = λ clean. none_found _ _ failed.0;
      moves = λ clean. none_ok _ _ failed.0;
      old_room = λ clean. none_ok _ _ failed.0;
      leaves = λ clean. any_err c.from_residual-in_err-is_room_of-2.result (looked.left clean);
      not_old =
          λ clean.
          IfErr-weaker c.from_residual-in_err-is_room_of-2.result _ _
          (λ e other. (λ is. absurd (other.0 is), λ is. absurd (other.1 is)))
          (none_opened _ c.in_err-is_room_of-2.field-0.0 failed.1);
      no_room =
          λ clean.
          IfErr-weaker c.from_residual-in_err-is_room_of-2.result _ _ (λ e other is. absurd (other.1 is))
          (none_opened _ c.in_err-is_room_of-2.field-0.0 failed.1);
      untouched = any_fault c.from_residual-in_err-is_room_of-2.result _ (λ e _. looked);
      ended = c.is_room_of-2.ensures.ended;
      survives =
          survives_less old (state g.S.Store c.is_room_of-2.new.conn) (λ _. ⊥) (MayBeMoved old.now)
          (λ db none. absurd none) looked.survives;
    }
