use Rattle.std.proofs.Common.{refl, subst, sym, ◌∙◌}
use Rattle.room_tables_schema.proofs.ReadLaws.{fails, looked, succeeds}
use Rattle.room_store_cache.specs.Cache.{AreRowsOf}
use Rattle.room_store_reads.proofs.crew_reads.load_crew.Goals as goal

pub returns-clause-rows : goal.returns-clause-rows
returns-clause-rows g c clean config room h formed known there = (
  refl,
  record {
    vehicle = there;
    assignment =
        sym
        (rw (c.get.ensures, c.in_ok-turn.ensures.rows, known.rows.assignments) at
        (c.copied-assignment.ensures ∙ c.get-2.ensures));
    turn = c.in_ok-turn.ensures.row clean config room h formed known.turns there;
    loan =
        sym
        (rw (c.get-3.ensures, c.in_ok-turn.ensures.rows, known.rows.loans) at
        (c.copied-loan.ensures ∙ c.get-4.ensures));
  },
)

pub returns-clause-known : goal.returns-clause-known
returns-clause-known g c clean config room h known = record {
  rows = subst (λ rows. AreRowsOf rows room) (sym c.in_ok-turn.ensures.rows) known.rows;
  turns = c.in_ok-turn.ensures.known clean config room h known.turns;
}

pub returns-in_err-turn-clause-reads : goal.returns-in_err-turn-clause-reads
returns-in_err-turn-clause-reads g c = fails c.from_residual.ensures.0 c.in_err-turn.ensures.reads

pub returns-clause-reads : goal.returns-clause-reads
returns-clause-reads g c = succeeds (looked c.in_ok-turn.ensures.reads)
