use Rattle.std.proofs.Common.{arith}
use Rattle.sqlite.specs.Held.{state}
use Rattle.room_tables.proofs.RoomReads.{kept}
use Rattle.room_tables_schema.proofs.ReadLaws.{and, but, clean_before, fails, looked, succeeds}
use Rattle.room_store_reads.proofs.MoveReads.{filled}
use Rattle.room_store_reads.proofs.move_rows.learn_moves.Goals as goal

pub learn_one-requires-clause-open : goal.learn_one-requires-clause-open
learn_one-requires-clause-open g c clean = ((looked c.in_ok-fill.ensures.reads).ok clean).0.is_open

pub loop-other-init : goal.loop-other-init
loop-other-init g c =
    let one = looked c.in_ok-fill.ensures.reads in
    record {
      looked = and one c.in_ok-learn_one.ensures.reads;
      known = λ clean config room h formed is.
          let first = clean_before one c.in_ok-learn_one.ensures.reads clean in
          c.in_ok-learn_one.ensures.known clean config room (kept _ _ (one.ok first) config room h) formed
          (filled _ (c.in_ok-fill.ensures.known first config room h is.fleet) is);
    }

pub learn_if-requires-clause-open : goal.learn_if-requires-clause-open
learn_if-requires-clause-open g c clean = (c.loop-other.invariant.looked.ok clean).0.is_open

pub loop-other-preserved : goal.loop-other-preserved
loop-other-preserved g c =
    let before = c.loop-other.invariant in
    record {
      looked = and before.looked c.in_ok-learn_if.ensures.reads;
      known = λ clean config room h formed is.
          let early = clean_before before.looked c.in_ok-learn_if.ensures.reads clean in
          c.in_ok-learn_if.ensures.known clean config room (kept _ _ (before.looked.ok early) config room h) formed
          (before.known early config room h formed is);
    }

pub returns-clause-known : goal.returns-clause-known
returns-clause-known g c = c.loop-other.invariant.known

pub returns-clause-reads : goal.returns-clause-reads
returns-clause-reads g c = succeeds c.loop-other.invariant.looked

pub returns-in_err-fill-clause-reads : goal.returns-in_err-fill-clause-reads
returns-in_err-fill-clause-reads g c = fails c.from_residual.ensures.0 c.in_err-fill.ensures.reads

pub returns-in_err-learn_one-clause-reads : goal.returns-in_err-learn_one-clause-reads
returns-in_err-learn_one-clause-reads g c =
    but (looked c.in_ok-fill.ensures.reads) c.from_residual-in_err-learn_one.ensures.0
    c.in_err-learn_one.ensures.reads

pub returns-in_err-learn_if-clause-reads : goal.returns-in_err-learn_if-clause-reads
returns-in_err-learn_if-clause-reads g c =
    but c.loop-other.invariant.looked c.from_residual-in_err-learn_if.ensures.0 c.in_err-learn_if.ensures.reads
