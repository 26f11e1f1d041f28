use Rattle.std.proofs.Common.{refl, subst, sym}
use Rattle.room_tables_schema.proofs.ReadLaws.{begins, fails, looked, succeeds}
use Rattle.room_store_cache.specs.Cache.{AreRowsOf}
use Rattle.room_store_reads.proofs.move_rows.learn_turn.Goals as goal

pub returns-in_ok-turn_at-clause-known : goal.returns-in_ok-turn_at-clause-known
returns-in_ok-turn_at-clause-known g c clean config room h fleet = record {
  rows = subst (λ rows. AreRowsOf rows room) (sym c.in_ok-turn_at.ensures.rows) fleet.rows;
  turns = c.in_ok-turn_at.ensures.known clean config room h fleet.turns;
}

pub returns-in_ok-turn_at-clause-reads : goal.returns-in_ok-turn_at-clause-reads
returns-in_ok-turn_at-clause-reads g c = succeeds (looked c.in_ok-turn_at.ensures.reads)

pub returns-in_err-turn_at-clause-reads : goal.returns-in_err-turn_at-clause-reads
returns-in_err-turn_at-clause-reads g c = fails c.from_residual.ensures.0 c.in_err-turn_at.ensures.reads

pub returns-in_default-clause-reads : goal.returns-in_default-clause-reads
returns-in_default-clause-reads g c = succeeds (begins c.requires.open)
