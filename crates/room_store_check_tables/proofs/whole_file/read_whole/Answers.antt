use Rattle.std.proofs.Common.{arith, inl, inr, subst, sym, true≢false, ◌∙◌, ◌≡◌}
use Rattle.sqlite.specs.Effect.{Database}
use Rattle.sqlite.specs.Held.{state}
use Rattle.sqlite.specs.State.{HasCleanDisk}
use Rattle.room_tables.specs.Rowids.{AreAllNumbered}
use Rattle.room_tables.proofs.Inside.{inside_then}
use Rattle.room_tables_schema.proofs.ReadLaws.{ends_inside, fails_inside}
use Rattle.room_tables.proofs.ReadFailures.{holds_on, if_storage}
use Rattle.room_store_check_tables.proofs.Findings.{none_found, not_reported, stands_with}
use Rattle.room_store_check_tables.proofs.Findings.{storage_reported}
use Rattle.room_store_check_tables.proofs.RowLaws.{fails_at_rowids, fails_then}
use Rattle.room_store_check_tables.specs.HeldRooms.{HasConfiguration, HasRows, MakesNoPlan}
use Rattle.room_store_check_tables.specs.declared.file_faults.FileFault.TheVariants.{NotARoom}
use Rattle.room_store_check_tables.proofs.whole_file.read_whole.Goals as goal

pub returns-clause-stands : goal.returns-clause-stands
returns-clause-stands g c clean =
    let second = state g.S.Store c.are_numbered.new.tx.conn.now in
    let third = state g.S.Store c.read_config.new.tx.conn.now in
    let clean_third : HasCleanDisk third = omega (arith, c.read_rows.ensures.reads.survives.clean) in
    let clean_second : HasCleanDisk second = omega (arith, clean_third, c.read_config.ensures.reads.survives.clean) in
    let to_second = (c.in_ok-are_numbered.ensures.reads.ok clean_second).0.now_is in
    let to_third = (c.in_ok-config.ensures.reads.ok clean_third).0.now_is ∙ to_second in
    let all = (c.in_ok-are_numbered.ensures.numbered clean_second).0 c.if-not-branch.false in
    let plan = c.in_ok-config.config.plan in
    let terminals = c.in_ok-config.config.terminals.items in
    let config = subst
    (λ (db : Database). AreAllNumbered db.trees → HasConfiguration db.trees plan.areas plan.zone terminals) to_second
    (c.in_ok-config.ensures.found clean_third) all in
    let rows = subst (λ (db : Database). AreAllNumbered db.trees → HasRows db.trees c.in_ok-rows.rows) to_third
    (c.in_ok-rows.ensures.found clean) all in
    stands_with (state g.S.Store c.args.tx.now.conn.now).now.trees plan terminals c.in_ok-rows.rows config rows

pub returns-in_err-are_numbered : goal.returns-in_err-are_numbered
returns-in_err-are_numbered g c = record {
  stands = λ clean. none_found _ _ c.from_residual.ensures.0;
  no_plan = λ clean. not_reported _ c.in_err-are_numbered.field-0.0 _ c.from_residual.ensures.1;
  why =
      λ clean.
      storage_reported _ c.in_err-are_numbered.field-0.0 _ c.from_residual.ensures.1
      (if_storage c.in_err-are_numbered.field-0.0 (c.in_err-are_numbered.ensures.why clean) fails_at_rowids);
  reads = fails_inside c.from_residual.ensures.0 c.in_err-are_numbered.ensures.reads;
  same_reference = c.are_numbered.ensures.same_reference;
}

pub returns-then-not-branch-clause-reads : goal.returns-then-not-branch-clause-reads
returns-then-not-branch-clause-reads g c = ends_inside _ c.in_ok-are_numbered.ensures.reads

pub returns-then-not-branch-clause-no_plan : goal.returns-then-not-branch-clause-no_plan
returns-then-not-branch-clause-no_plan g c clean is =
    inl (λ all. true≢false (sym ((c.in_ok-are_numbered.ensures.numbered clean).1 all) ∙ c.if-not-branch.true))

pub returns-in_err-config-clause-no_plan : goal.returns-in_err-config-clause-no_plan
returns-in_err-config-clause-no_plan g c clean =
    let second = state g.S.Store c.are_numbered.new.tx.conn.now in
    let clean_second : HasCleanDisk second = omega (arith, c.read_config.ensures.reads.survives.clean) in
    let same = (c.in_ok-are_numbered.ensures.reads.ok clean_second).0.now_is in
    let all = (c.in_ok-are_numbered.ensures.numbered clean_second).0 c.if-not-branch.false in
    let none = subst
    (λ (db : Database). c.in_err-config.field-0.0 ≡ NotARoom → AreAllNumbered db.trees → MakesNoPlan db.trees) same
    (c.in_err-config.ensures.no_plan clean) in
    holds_on c.from_residual-in_err-config.result c.in_err-config.field-0.0 _ c.from_residual-in_err-config.ensures.1
    (λ is. inr (none is all))

pub returns-in_err-config-clause-why : goal.returns-in_err-config-clause-why
returns-in_err-config-clause-why g c clean =
    holds_on c.from_residual-in_err-config.result c.in_err-config.field-0.0 _ c.from_residual-in_err-config.ensures.1
    (λ storage. fails_then c.in_ok-are_numbered.ensures.reads (c.in_err-config.ensures.why clean storage))

pub returns-in_err-config-clause-reads : goal.returns-in_err-config-clause-reads
returns-in_err-config-clause-reads g c =
    inside_then c.in_ok-are_numbered.ensures.reads _
    (fails_inside c.from_residual-in_err-config.ensures.0 c.in_err-config.ensures.reads)

pub returns-in_err-rows : goal.returns-in_err-rows
returns-in_err-rows g c =
    let failed = c.from_residual-in_err-rows.ensures in
    record {
      stands = λ clean. none_found _ _ failed.0;
      no_plan = λ clean. not_reported _ c.in_err-rows.field-0.0 _ failed.1;
      why =
          λ clean.
          storage_reported _ c.in_err-rows.field-0.0 _ failed.1
          (if_storage c.in_err-rows.field-0.0 (c.in_err-rows.ensures.why clean)
          (λ f. fails_then c.in_ok-are_numbered.ensures.reads (fails_then c.in_ok-config.ensures.reads f)));
      reads =
          inside_then c.in_ok-are_numbered.ensures.reads _
          (inside_then c.in_ok-config.ensures.reads _ (fails_inside failed.0 c.in_err-rows.ensures.reads));
      same_reference =
          c.read_rows.ensures.same_reference ∙ c.read_config.ensures.same_reference
          ∙ c.are_numbered.ensures.same_reference;
    }

pub returns-clause-reads : goal.returns-clause-reads
returns-clause-reads g c =
    inside_then c.in_ok-are_numbered.ensures.reads _
    (inside_then c.in_ok-config.ensures.reads _ (ends_inside _ c.in_ok-rows.ensures.reads))
