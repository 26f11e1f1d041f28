use Rattle.std.proofs.Common.{◌∙◌, arith, inl, inr, subst, sym, true≢false}
use Rattle.std.proofs.lemmas.Result.{IfErr-weaker}
use Rattle.sqlite.specs.Effect.{Database}
use Rattle.sqlite.specs.Held.{state}
use Rattle.sqlite.specs.State.{HasCleanDisk}
use Rattle.sqlite.proofs.StateLemmas.{survives_then}
use Rattle.room_tables_schema.proofs.ReadLaws.{any_err}
use Rattle.room_tables_schema.specs.Versions.{HasTables}
use Rattle.room_store_writes.proofs.CommitLaws.{on_ok, ok_then}
use Rattle.room_store_file.proofs.FileLaws.{left_left, left_then_opens}
use Rattle.room_store_check_tables.proofs.StreamLaws.{nothing_then}
use Rattle.room_store_file.proofs.TakeLaws.{any_fault, both_errs, hidden, none_opened}
use Rattle.room_store_file.proofs.TakeLaws.{survives_less}
use Rattle.room_store_check_tables.proofs.Findings.{none_found, none_ok}
use Rattle.room_store_file.specs.OpenedFile.{IsOldRoom, MayBeIndexed}
use Rattle.room_store_check_tables.specs.HeldRooms.{HoldsRoom}
use Rattle.room_tables_schema.specs.FileConnections.{IsClean}
use Rattle.room_store_file.proofs.opened_file.open_in.Goals as goal

pub returns-clause-schema : goal.returns-clause-schema
returns-clause-schema g c clean =
    ok_then c.open_tables.result _ _ (λ opens. opens.schema) (c.open_tables.ensures.opens clean)

pub returns-clause-settled : goal.returns-clause-settled
returns-clause-settled g c clean =
    ok_then c.open_tables.result _ _ (λ opens. opens.settled) (c.open_tables.ensures.opens clean)

pub returns-clause-kept : goal.returns-clause-kept
returns-clause-kept g c clean =
    let mid = state g.S.Store c.is_room_of.new.conn in
    let early : HasCleanDisk mid = omega (arith, c.open_tables.ensures.survives.clean) in
    ok_then c.open_tables.result _ _
    (λ opens.
    left_then_opens (state g.S.Store c.args.conn.now) mid (state g.S.Store c.open_tables.new.conn)
    (c.in_ok-is_room_of.ensures.ok early) (c.is_room_of.ensures.nothing.left early) opens.kept)
    (c.open_tables.ensures.opens clean)

pub returns-clause-leaves : goal.returns-clause-leaves
returns-clause-leaves g c clean =
    let mid = state g.S.Store c.is_room_of.new.conn in
    let early : HasCleanDisk mid = omega (arith, c.open_tables.ensures.survives.clean) in
    IfErr-weaker c.open_tables.result _ _
    (λ _ left.
    left_left (state g.S.Store c.args.conn.now) mid (state g.S.Store c.open_tables.new.conn)
    (c.is_room_of.ensures.nothing.left early) left) (c.open_tables.ensures.leaves clean)

pub returns-clause-not_old : goal.returns-clause-not_old
returns-clause-not_old g c clean =
    let early : IsClean g.S.Store c.is_room_of.new.conn = omega
    (arith, c.open_tables.ensures.survives.clean) in
    let stated = c.in_ok-is_room_of.ensures.test early in
    let none : ¬ IsOldRoom (state g.S.Store c.args.conn.now).now = λ old.
    true≢false (sym (stated.1 old) ∙ c.if-branch.false) in
    on_ok _ _ none

pub returns-clause-old_room : goal.returns-clause-old_room
returns-clause-old_room g c clean =
    let early : IsClean g.S.Store c.is_room_of.new.conn = omega
    (arith, c.open_tables.ensures.survives.clean) in
    let stated = c.in_ok-is_room_of.ensures.test early in
    IfErr-weaker c.open_tables.result _ _
    (λ e other. (λ is. absurd (other is), λ is old. absurd (true≢false (sym (stated.1 old) ∙ c.if-branch.false))))
    c.open_tables.ensures.this_version

pub returns-clause-no_room : goal.returns-clause-no_room
returns-clause-no_room g c clean =
    let early : IsClean g.S.Store c.is_room_of.new.conn = omega
    (arith, c.open_tables.ensures.survives.clean) in
    let same = sym (c.in_ok-is_room_of.ensures.ok early) in
    IfErr-weaker c.open_tables.result _ _
    (λ e none is tables holds.
    none is (subst (λ (db : Database). HasTables db.schema) same tables)
    (subst (λ (db : Database). HoldsRoom db.trees) same holds)) (c.open_tables.ensures.no_room clean)

pub returns-clause-storage : goal.returns-clause-storage
returns-clause-storage g c clean =
    let early : IsClean g.S.Store c.is_room_of.new.conn = omega
    (arith, c.open_tables.ensures.survives.clean) in
    IfErr-weaker c.open_tables.result _ _
    (λ e has is. inl (subst (λ (db : Database). HasTables db.schema) (c.in_ok-is_room_of.ensures.ok early) (has is)))
    (c.open_tables.ensures.storage clean)

pub returns-clause-why : goal.returns-clause-why
returns-clause-why g c clean =
    let early : IsClean g.S.Store c.is_room_of.new.conn = omega
    (arith, c.open_tables.ensures.survives.clean) in
    IfErr-weaker c.open_tables.result _ _
    (λ e why is.
    inr (record {
      mid = c.is_room_of.new.conn;
      same = c.in_ok-is_room_of.ensures.ok early;
      nothing = c.is_room_of.ensures.nothing;
      fails = why is;
    })) (c.open_tables.ensures.why clean)

pub returns-clause-untouched : goal.returns-clause-untouched
returns-clause-untouched g c =
    both_errs c.open_tables.result _ _ _ c.open_tables.ensures.this_version c.open_tables.ensures.untouched
    (λ e other none is. elim is [
      | inl old ↦ absurd (other old)
      | inr other_is ↦
          nothing_then (state g.S.Store c.args.conn.now) (state g.S.Store c.is_room_of.new.conn)
          (state g.S.Store c.open_tables.new.conn) c.is_room_of.ensures.nothing (none other_is)
    ])

pub returns-clause-survives : goal.returns-clause-survives
returns-clause-survives g c =
    let old = state g.S.Store c.args.conn.now in
    let mid = state g.S.Store c.is_room_of.new.conn in
    survives_then old mid (state g.S.Store c.open_tables.new.conn) _ _ (MayBeIndexed old.now) (λ _ db none. absurd none)
    (λ clean db left.
    let early : HasCleanDisk mid = omega (arith, c.open_tables.ensures.survives.clean) in
    subst (λ (was : Database). MayBeIndexed was db) (c.in_ok-is_room_of.ensures.ok early) left)
    c.is_room_of.ensures.nothing.survives c.open_tables.ensures.survives

pub returns-in_err-is_room_of : goal.returns-in_err-is_room_of
returns-in_err-is_room_of g c =
    let old = state g.S.Store c.args.conn.now in
    let failed = c.from_residual.ensures in
    let looked = c.is_room_of.ensures.nothing in
    record {
      room = λ clean. none_found _ _ failed.0;
      schema = λ clean. none_ok _ _ failed.0;
      settled = λ clean. none_ok _ _ failed.0;
      kept = λ clean. none_ok _ _ failed.0;
      leaves = λ clean. any_err c.from_residual.result (looked.left clean);
      not_old = λ clean. none_ok _ _ failed.0;
      old_room =
          λ clean.
          IfErr-weaker c.from_residual.result _ _ (λ e other. (λ is. absurd (other.0 is), λ is. absurd (other.1 is)))
          (none_opened _ c.in_err-is_room_of.field-0.0 failed.1);
      no_room =
          λ clean.
          IfErr-weaker c.from_residual.result _ _ (λ e other is. absurd (other.1 is))
          (none_opened _ c.in_err-is_room_of.field-0.0 failed.1);
      storage =
          λ clean.
          IfErr-weaker c.from_residual.result _ _ (λ e hides is. inr (hides is))
          (hidden c.from_residual.result c.in_err-is_room_of.field-0.0 _ failed.1
          (c.in_err-is_room_of.ensures.why clean));
      why =
          λ clean.
          IfErr-weaker c.from_residual.result _ _ (λ e hides is. inl (hides is))
          (hidden c.from_residual.result c.in_err-is_room_of.field-0.0 _ failed.1
          (c.in_err-is_room_of.ensures.why clean));
      untouched = any_fault c.from_residual.result _ (λ e _. looked);
      ended = c.is_room_of.ensures.ended;
      survives =
          survives_less old (state g.S.Store c.is_room_of.new.conn) (λ _. ⊥) (MayBeIndexed old.now)
          (λ db none. absurd none) looked.survives;
    }

pub returns-then-branch : goal.returns-then-branch
returns-then-branch g c =
    let old = state g.S.Store c.args.conn.now in
    let looked = c.is_room_of.ensures.nothing in
    record {
      room = λ clean. tt;
      schema = λ clean. tt;
      settled = λ clean. tt;
      kept = λ clean. tt;
      leaves = λ clean. looked.left clean;
      not_old = λ clean. tt;
      old_room = λ clean. (λ is. (c.in_ok-is_room_of.ensures.test clean).0 c.if-branch.true, λ is. cc);
      no_room = λ clean is. cc;
      storage = λ clean is. cc;
      why = λ clean is. cc;
      untouched = λ is. looked;
      ended = c.is_room_of.ensures.ended;
      survives =
          survives_less old (state g.S.Store c.is_room_of.new.conn) (λ _. ⊥) (MayBeIndexed old.now)
          (λ db none. absurd none) looked.survives;
    }
