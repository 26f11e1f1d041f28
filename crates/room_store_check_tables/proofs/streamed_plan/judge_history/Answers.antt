use Rattle.std.proofs.Common.{arith, subst}
use Rattle.sqlite.specs.Effect.{Database}
use Rattle.sqlite.specs.Held.{state}
use Rattle.sqlite.specs.State.{HasCleanDisk}
use Rattle.room_tables_schema.proofs.ReadLaws.{and, but, fails, looked, succeeds}
use Rattle.room_tables.specs.Failures.{IfStorage}
use Rattle.room_tables.proofs.ReadFailures.{holds_on, if_storage}
use Rattle.room_store_check_tables.proofs.Findings.{none_found}
use Rattle.room_store_check_tables.proofs.RowLaws.{fails_first, fails_then}
use Rattle.room_store_check_tables.proofs.StreamLaws.{all_agree, inside_of}
use Rattle.room_store_check_tables.specs.StreamedPlan.{AreCalls, AreReports}
use Rattle.room_store_check_tables.specs.ReadCauses.{FailsInTables, calls_fail, reports_fail}
use Rattle.room_store_check_tables.specs.ReadCauses.{turns_fail}
use Rattle.room_store_check_tables.proofs.streamed_plan.judge_history.Goals as goal

pub returns-in_err-turns : goal.returns-in_err-turns
returns-in_err-turns g c =
    let failed = c.from_residual.ensures.0 in
    record {
      history = λ clean. none_found _ _ failed;
      why =
          λ clean.
          holds_on _ c.in_err-turns.field-0.0 (IfStorage (FailsInTables g.S.Store c.args.conn.now c.judge.new.conn))
          c.from_residual.ensures.1
          (if_storage c.in_err-turns.field-0.0 (c.in_err-turns.ensures.why clean) (λ f. fails_first (turns_fail f)));
      reads = fails failed c.in_err-turns.ensures.reads;
    }

pub returns-in_err-reports : goal.returns-in_err-reports
returns-in_err-reports g c =
    let failed = c.from_residual-in_err-reports.ensures.0 in
    record {
      history = λ clean. none_found _ _ failed;
      why = λ clean. holds_on _ c.in_err-reports.field-0.0
          (IfStorage (FailsInTables g.S.Store c.args.conn.now c.judge-2.new.conn))
          c.from_residual-in_err-reports.ensures.1
          (if_storage c.in_err-reports.field-0.0 (c.in_err-reports.ensures.why clean)
          (λ f. fails_then (inside_of c.in_ok-turns.ensures.reads) (fails_first (reports_fail f))));
      reads = but (looked c.in_ok-turns.ensures.reads) failed c.in_err-reports.ensures.reads;
    }

pub returns-in_err-openings : goal.returns-in_err-openings
returns-in_err-openings g c =
    let failed = c.from_residual-in_err-openings.ensures.0 in
    record {
      history = λ clean. none_found _ _ failed;
      why = λ clean. holds_on _ c.in_err-openings.field-0.0
          (IfStorage (FailsInTables g.S.Store c.args.conn.now c.judge-3.new.conn))
          c.from_residual-in_err-openings.ensures.1
          (if_storage c.in_err-openings.field-0.0 (c.in_err-openings.ensures.why clean)
          (λ f.
          fails_then (inside_of c.in_ok-turns.ensures.reads)
          (fails_then (inside_of c.in_ok-reports.ensures.reads) (fails_first (calls_fail f)))));
      reads =
          but (and (looked c.in_ok-turns.ensures.reads) c.in_ok-reports.ensures.reads) failed
          c.in_err-openings.ensures.reads;
    }

pub returns : goal.returns
returns g c =
    let second = state g.S.Store c.judge.new.conn in
    let third = state g.S.Store c.judge-2.new.conn in
    let one = looked c.in_ok-turns.ensures.reads in
    let two = and one c.in_ok-reports.ensures.reads in
    record {
      history = λ clean.
          let clean_third : HasCleanDisk third = omega (arith, c.in_ok-openings.ensures.reads.survives.clean) in
          let clean_second : HasCleanDisk second = omega
          (arith, clean_third, c.in_ok-reports.ensures.reads.survives.clean) in
          let turns = c.in_ok-turns.ensures.judged clean_second in
          let reports = c.in_ok-reports.ensures.judged clean_third in
          let calls = c.in_ok-openings.ensures.judged clean in
          record {
            turns = turns.0;
            reports = reports.0;
            calls = calls.0;
            turns_are = turns.1;
            reports_are =
                subst (λ (db : Database). AreReports db.trees reports.0) (one.ok clean_second).0.now_is reports.1;
            calls_are = subst (λ (db : Database). AreCalls db.trees calls.0) (two.ok clean_third).0.now_is calls.1;
            open_turns = turns.3 c.new.ensures;
            last_reports = reports.3 c.new-2.ensures;
            called = calls.3 c.new-3.ensures;
            agree = all_agree _ _ _ _ _ _ turns.2 reports.2 calls.2;
          };
      why = λ clean. tt;
      reads = succeeds (and two c.in_ok-openings.ensures.reads);
    }
