-- What was read, and then put, is the change.
use Rattle.std.proofs.Common.{None, Some, refl, subst, sym, ◌∙◌}
use Rattle.std.proofs.lemmas.Result.{IfOk-weaker}
use Rattle.sqlite.specs.Held.{state}
use Rattle.sqlite.specs.State.{Shown}
use Rattle.room_tables_schema.proofs.Refusals.{plain_here}
use Rattle.room_tables_schema.proofs.ReadLaws.{ends_inside}
use Rattle.room_tables_schema.proofs.WriteLaws.{only_read, read_writes, unread}
use Rattle.room_tables_schema.specs.Schema.{room_schema}
use Rattle.room_tables_rows.specs.KeyColumns.{text_cells}
use Rattle.room_tables_rows.specs.declared.vehicle_sql.TheConstants.{VEHICLE_AT}
use Rattle.room_tables_rows.proofs.VehiclesTable.{vehicle_at_means, vehicles_are}
use Rattle.room_tables.proofs.Made.{puts}
use Rattle.room_tables.proofs.RoomReads.{was_clean}
use Rattle.room_tables.proofs.Settles.{found_by, settles_found, settles_none}
use Rattle.room_tables.proofs.row_changes.settle.Goals as goal

pub select_inside-requires : goal.select_inside-requires
select_inside-requires g c clean =
    plain_here room_schema _ VEHICLE_AT.now (c.requires.inside.room clean) vehicle_at_means.plain

pub returns-clause-ok : goal.returns-clause-ok
returns-clause-ok g c clean =
    let old = state g.S.Store c.args.tx.now.conn.now in
    let mid = state g.S.Store c.select_inside.new.tx.conn.now in
    let read = was_clean c.run.ensures.writes.survives clean in
    let early = was_clean c.select_inside.ensures.reads.survives read in
    let is = rw c.in-Some.is at c.in_ok-vehicle.ensures.shown in
    let shown = subst (Shown VEHICLE_AT.now (text_cells c.args.callsign.now) old mid)
    (sym (is ∙ c.as_slice-2.ensures.value))
    (rw (c.as_slice.ensures, c.key_columns.ensures) at (c.in_ok-shown.ensures.shown read)) in
    let found = found_by old mid c.args.callsign.now (Some c.in-Some.vehicle) (c.requires.inside.room early) shown in
    IfOk-weaker c.run.result _ _
    (λ _ it.
    settles_found old mid c.args.callsign.now c.args.division (c.in_ok-shown.ensures.reads.ok read) c.in-Some.vehicle _
    found (puts it vehicles_are _ (refl, c.as_slice-3.ensures ∙ c.columns.ensures))) (c.run.ensures.ran clean)

pub returns-clause-writes : goal.returns-clause-writes
returns-clause-writes g c = read_writes c.in_ok-shown.ensures.reads c.run.result c.run.ensures.writes

pub returns-in_default-clause-ok : goal.returns-in_default-clause-ok
returns-in_default-clause-ok g c clean =
    let old = state g.S.Store c.args.tx.now.conn.now in
    let mid = state g.S.Store c.select_inside.new.tx.conn.now in
    let early = was_clean c.select_inside.ensures.reads.survives clean in
    let is = rw c.in_default.is at c.in_ok-vehicle.ensures.shown in
    let shown = subst (Shown VEHICLE_AT.now (text_cells c.args.callsign.now) old mid)
    (sym (is ∙ c.as_slice-2.ensures.value))
    (rw (c.as_slice.ensures, c.key_columns.ensures) at (c.in_ok-shown.ensures.shown clean)) in
    let found = found_by old mid c.args.callsign.now None (c.requires.inside.room early) shown in
    settles_none old mid c.args.callsign.now c.args.division (c.in_ok-shown.ensures.reads.ok clean)
    (c.requires.inside.inside early) (c.requires.inside.room early) found

pub returns-in_default-clause-writes : goal.returns-in_default-clause-writes
returns-in_default-clause-writes g c = only_read c.in_ok-shown.ensures.reads

pub returns-in_err-shown-clause-writes : goal.returns-in_err-shown-clause-writes
returns-in_err-shown-clause-writes g c = unread c.in_err-shown.ensures.reads

pub returns-in_err-vehicle-clause-writes : goal.returns-in_err-vehicle-clause-writes
returns-in_err-vehicle-clause-writes g c =
    let read = ends_inside c.from_residual-in_err-vehicle.result c.in_ok-shown.ensures.reads in
    record { err = read.err; survives = read.survives }
