use Rattle.std.proofs.Common.{[], arith, subst, sym, ◌∙◌, ◌∷◌}
use Rattle.std.proofs.lemmas.Result.{IfErr-weaker, IfOk-weaker}
use Rattle.std.specs.Prelude.{string_bytes}
use Rattle.sqlite.specs.Effect.{Database}
use Rattle.sqlite.specs.Held.{state}
use Rattle.sqlite.specs.State.{HasCleanDisk}
use Rattle.room_tables_rows.specs.AreaSql.{area_row}
use Rattle.room_tables_rows.specs.MetaSql.{meta_row}
use Rattle.room_tables_rows.specs.TerminalSql.{terminal_row}
use Rattle.room_tables_schema.specs.Schema.{areas_table, meta_table, terminals_table}
use Rattle.room_tables_schema.specs.TableTrees.{AreNumbered}
use Rattle.room_tables.specs.RoomsInTables.{StandsFor, numbered}
use Rattle.room_tables.proofs.Inside.{inside_then}
use Rattle.room_tables_schema.proofs.ReadLaws.{ends_inside, fails_inside}
use Rattle.room_tables.proofs.ReadFailures.{if_storage}
use Rattle.room_store_check_tables.proofs.Findings.{none_found, none_stored, not_reported}
use Rattle.room_store_check_tables.proofs.Findings.{storage_reported}
use Rattle.room_store_check_tables.proofs.RowLaws.{fails_first, fails_then}
use Rattle.room_store_check_tables.specs.ReadCauses.{areas_fail, meta_fails, terminals_fail}
use Rattle.room_tables_schema.specs.FileConnections.{IsClean}
use Rattle.room_store_check_tables.proofs.whole_file.read_config.Goals as goal

pub returns-clause-found : goal.returns-clause-found
returns-clause-found g c clean =
    let first = state g.S.Store c.args.tx.now.conn.now in
    let second = state g.S.Store c.all_terminals.new.tx.conn.now in
    let third = state g.S.Store c.zone.new.tx.conn.now in
    let clean_third : HasCleanDisk third = omega (arith, c.all_areas.ensures.reads.survives.clean) in
    let clean_second : HasCleanDisk second = omega (arith, clean_third, c.zone.ensures.reads.survives.clean) in
    let to_second = (c.in_ok-terminals.ensures.reads.ok clean_second).0.now_is in
    let to_third = (c.in_ok-zone.ensures.reads.ok clean_third).0.now_is ∙ to_second in
    IfOk-weaker c.planned_config.result _ _ (λ x is all.
    let meta = subst (λ (db : Database). StandsFor db.trees meta_table meta_row (string_bytes c.in_ok-zone.zone ∷ []))
    to_second (c.in_ok-zone.ensures.found clean_third) in
    let areas = subst
    (λ (db : Database).
    AreNumbered (db.trees areas_table.tree)
    → StandsFor db.trees areas_table area_row (numbered 1 c.in_ok-areas.areas.items)) to_third
    (c.in_ok-areas.ensures.found clean) all.1.0 in
    record {
      meta = subst (λ zone. StandsFor first.now.trees meta_table meta_row (zone ∷ [])) (sym is.1) meta;
      areas_are = subst (λ areas. StandsFor first.now.trees areas_table area_row (numbered 1 areas)) (sym is.0) areas;
      terminals_are =
          subst (StandsFor first.now.trees terminals_table terminal_row) (sym is.2)
          (c.in_ok-terminals.ensures.found clean_second all.1.1.0);
    }) c.planned_config.ensures.config

pub returns-clause-no_plan : goal.returns-clause-no_plan
returns-clause-no_plan g c clean =
    let third = state g.S.Store c.zone.new.tx.conn.now in
    let clean_third : HasCleanDisk third = omega (arith, c.all_areas.ensures.reads.survives.clean) in
    let clean_second : IsClean g.S.Store c.all_terminals.new.tx.conn.now = omega
    (arith, clean_third, c.zone.ensures.reads.survives.clean) in
    let to_second = (c.in_ok-terminals.ensures.reads.ok clean_second).0.now_is in
    let to_third = (c.in_ok-zone.ensures.reads.ok clean_third).0.now_is ∙ to_second in
    IfErr-weaker c.planned_config.result _ _ (λ e none is all. record {
      areas = c.in_ok-areas.areas.items;
      zone = string_bytes c.in_ok-zone.zone;
      areas_are =
          subst (λ (db : Database).
          AreNumbered (db.trees areas_table.tree)
          → StandsFor db.trees areas_table area_row (numbered 1 c.in_ok-areas.areas.items)) to_third
          (c.in_ok-areas.ensures.found clean) all.1.0;
      meta =
          subst (λ (db : Database). StandsFor db.trees meta_table meta_row (string_bytes c.in_ok-zone.zone ∷ []))
          to_second (c.in_ok-zone.ensures.found clean_third);
      no_plan = none is;
    }) c.planned_config.ensures.no_plan

pub returns-in_err-terminals : goal.returns-in_err-terminals
returns-in_err-terminals g c =
    let failed = c.from_residual.ensures in
    record {
      found = λ clean. none_found _ _ failed.0;
      no_plan = λ clean. not_reported _ c.in_err-terminals.field-0.0 _ failed.1;
      why =
          λ clean.
          storage_reported _ c.in_err-terminals.field-0.0 _ failed.1
          (if_storage c.in_err-terminals.field-0.0 (c.in_err-terminals.ensures.why clean)
          (λ f. fails_first (terminals_fail f)));
      reads = fails_inside failed.0 c.in_err-terminals.ensures.reads;
      same_reference = c.all_terminals.ensures.same_reference;
    }

pub returns-in_err-zone : goal.returns-in_err-zone
returns-in_err-zone g c =
    let failed = c.from_residual-in_err-zone.ensures in
    record {
      found = λ clean. none_found _ _ failed.0;
      no_plan = λ clean. not_reported _ c.in_err-zone.field-0.0 _ failed.1;
      why =
          λ clean.
          storage_reported _ c.in_err-zone.field-0.0 _ failed.1
          (if_storage c.in_err-zone.field-0.0 (c.in_err-zone.ensures.why clean)
          (λ f. fails_then c.in_ok-terminals.ensures.reads (fails_first (meta_fails f))));
      reads = inside_then c.in_ok-terminals.ensures.reads _ (fails_inside failed.0 c.in_err-zone.ensures.reads);
      same_reference = c.zone.ensures.same_reference ∙ c.all_terminals.ensures.same_reference;
    }

pub returns-in_err-areas : goal.returns-in_err-areas
returns-in_err-areas g c =
    let failed = c.from_residual-in_err-areas.ensures in
    record {
      found = λ clean. none_found _ _ failed.0;
      no_plan = λ clean. not_reported _ c.in_err-areas.field-0.0 _ failed.1;
      why =
          λ clean.
          storage_reported _ c.in_err-areas.field-0.0 _ failed.1
          (if_storage c.in_err-areas.field-0.0 (c.in_err-areas.ensures.why clean)
          (λ f.
          fails_then c.in_ok-terminals.ensures.reads
          (fails_then c.in_ok-zone.ensures.reads (fails_first (areas_fail f)))));
      reads =
          inside_then c.in_ok-terminals.ensures.reads _
          (inside_then c.in_ok-zone.ensures.reads _ (fails_inside failed.0 c.in_err-areas.ensures.reads));
      same_reference =
          c.all_areas.ensures.same_reference ∙ c.zone.ensures.same_reference ∙ c.all_terminals.ensures.same_reference;
    }

pub returns-clause-reads : goal.returns-clause-reads
returns-clause-reads g c =
    inside_then c.in_ok-terminals.ensures.reads _
    (inside_then c.in_ok-zone.ensures.reads _ (ends_inside _ c.in_ok-areas.ensures.reads))

pub returns-clause-why : goal.returns-clause-why
returns-clause-why g c clean = none_stored c.planned_config.result _ c.planned_config.ensures.cause
