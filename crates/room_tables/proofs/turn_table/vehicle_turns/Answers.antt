-- What was shown is what was asked for.
use Rattle.room_tables_schema.specs.Schema.{room_schema}
use Rattle.room_tables_rows.proofs.TurnsTable.{vehicle_turns_are, vehicle_turns_means}
use Rattle.room_tables_rows.specs.declared.turn_sql.TheConstants.{VEHICLE_TURNS}
use Rattle.sqlite.specs.Held.{state}
use Rattle.std.proofs.lemmas.Result.{IfOk-weaker}
use Rattle.room_tables_schema.proofs.Refusals.{plain_here}
use Rattle.room_tables.proofs.RoomReads.{was_clean}
use Rattle.room_tables.proofs.turn_table.vehicle_turns.Goals as goal

pub load-requires : goal.load-requires
load-requires g c clean = plain_here room_schema _ VEHICLE_TURNS.now (c.requires.room clean) vehicle_turns_means.plain

pub returns-clause-rows : goal.returns-clause-rows
returns-clause-rows g c clean =
    let old = state g.S.Store c.args.conn.now in
    let early = was_clean c.load.ensures.reads.survives clean in
    IfOk-weaker c.load.result _ _
    (λ found shown.
    vehicle_turns_are c.args.callsign.now c.args.division old (state g.S.Store c.load.new.conn) found
    (c.requires.room early) (rw (c.store.ensures, c.store-2.ensures) at shown)) (c.load.ensures.shown clean)

pub returns-clause-why : goal.returns-clause-why
returns-clause-why g c clean = rw (c.store.ensures, c.store-2.ensures) at (c.load.ensures.why clean)

pub returns-clause-reads : goal.returns-clause-reads
returns-clause-reads g c = c.load.ensures.reads
