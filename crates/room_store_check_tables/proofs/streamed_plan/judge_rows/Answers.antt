use Rattle.std.proofs.Common.{arith, refl, subst}
use Rattle.sqlite.specs.Effect.{Database}
use Rattle.sqlite.specs.Held.{state}
use Rattle.sqlite.specs.State.{HasCleanDisk}
use Rattle.room_tables_schema.proofs.ReadLaws.{and, but, fails, looked, succeeds}
use Rattle.room_tables.specs.Failures.{IfStorage}
use Rattle.room_tables.proofs.ReadFailures.{holds_on, if_storage}
use Rattle.room_store_check_tables.proofs.Findings.{none_found}
use Rattle.room_store_check_tables.proofs.RowLaws.{fails_then}
use Rattle.room_store_check_tables.proofs.StreamLaws.{inside_of, judged_with}
use Rattle.room_store_check_tables.specs.StreamedPlan.{IsHistory}
use Rattle.room_store_check_tables.specs.ReadCauses.{FailsInTables}
use Rattle.room_store_check_tables.proofs.streamed_plan.judge_rows.Goals as goal

pub returns-in_err-rows : goal.returns-in_err-rows
returns-in_err-rows g c = record {
  judged = λ clean. none_found _ _ c.from_residual.ensures.0;
  why =
      λ clean.
      holds_on _ c.in_err-rows.field-0.0 (IfStorage (FailsInTables g.S.Store c.args.conn.now c.rows_beside.new.conn))
      c.from_residual.ensures.1 (c.in_err-rows.ensures.why clean);
  reads = fails c.from_residual.ensures.0 c.in_err-rows.ensures.reads;
}

pub returns-in-Ok : goal.returns-in-Ok
returns-in-Ok g c =
    let mid = state g.S.Store c.rows_beside.new.conn in
    let reads = c.in_ok-rows.ensures.reads in
    record {
      judged = λ clean.
          let early : HasCleanDisk mid = omega (arith, c.in-Ok.ensures.reads.survives.clean) in
          let history = subst
          (λ (db : Database). IsHistory db.trees c.args.plan.now.areas c.in_ok-rows.rows c.in-Ok.history)
          (reads.ok early).0.now_is (c.in-Ok.ensures.history clean) in
          judged_with c.args.plan.now.areas c.in_ok-rows.rows c.in-Ok.history
          (state g.S.Store c.args.conn.now).now.trees (c.in_ok-rows.ensures.beside early) history;
      why = λ clean. tt;
      reads = succeeds (and (looked reads) c.in-Ok.ensures.reads);
    }

pub returns-in-Err : goal.returns-in-Err
returns-in-Err g c = record {
  judged = λ clean. tt;
  why =
      λ clean.
      if_storage c.in-Err.fault (c.in-Err.ensures.why clean) (fails_then (inside_of c.in_ok-rows.ensures.reads));
  reads = but (looked c.in_ok-rows.ensures.reads) refl c.in-Err.ensures.reads;
}
