use Rattle.std.proofs.Common.{arith, false, refl, sym, true, ◌∙◌, ◌≡◌}
use Rattle.room_place.specs.Plans.{has_division}
use Rattle.room_tables.proofs.RoomReads.{kept}
use Rattle.room_tables_schema.proofs.ReadLaws.{and, but, fails, looked, succeeds}
use Rattle.room_tables_schema.specs.FileConnections.{IsClean}
use Rattle.room_store.proofs.fleet_enrolment.find_fate.Goals as goal

pub returns-then-has-clause-fate : goal.returns-then-has-clause-fate
returns-then-has-clause-fate g c clean config room h =
    let early : IsClean g.S.Store c.row_at.new.conn = omega
    (arith, c.terminal_at.ensures.reads.survives.clean) in
    let vehicle = c.in_ok-vehicle.ensures.row early config room h.stands in
    let terminal = c.in_ok-terminal.ensures.row clean config room
    (kept _ _ (c.in_ok-vehicle.ensures.reads.ok early) config room h.stands) in
    let planned : has_division room.plan c.args.row.now.division
    ≡ true = rw h.plan (sym c.has.ensures ∙ c.if-has.true) in
    rw (planned, ← vehicle, ← terminal) c.fate_by.ensures

pub returns-else-has-clause-fate : goal.returns-else-has-clause-fate
returns-else-has-clause-fate g c clean config room h =
    let planned : has_division room.plan c.args.row.now.division
    ≡ false = rw h.plan (sym c.has.ensures ∙ c.if-has.false) in
    rw planned refl

pub returns-in_err-vehicle-clause-reads : goal.returns-in_err-vehicle-clause-reads
returns-in_err-vehicle-clause-reads g c = fails c.from_residual.ensures.0 c.in_err-vehicle.ensures.reads

pub returns-in_err-terminal-clause-reads : goal.returns-in_err-terminal-clause-reads
returns-in_err-terminal-clause-reads g c =
    but (looked c.in_ok-vehicle.ensures.reads) c.from_residual-in_err-terminal.ensures.0 c.in_err-terminal.ensures.reads

pub returns-then-has-clause-reads : goal.returns-then-has-clause-reads
returns-then-has-clause-reads g c = succeeds (and (looked c.in_ok-vehicle.ensures.reads) c.in_ok-terminal.ensures.reads)

pub returns-else-has-clause-reads : goal.returns-else-has-clause-reads
returns-else-has-clause-reads g c = succeeds (and (looked c.in_ok-vehicle.ensures.reads) c.in_ok-terminal.ensures.reads)
