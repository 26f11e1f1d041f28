use Rattle.std.proofs.Common.{[], map, take, ◌≡◌}
use Rattle.std.specs.Prelude.{filter, ◌&&◌, ◌==◌}
use Rattle.room_types.specs.Codes.{is_active}
use Rattle.room_types.specs.declared.tables.Incident.{Incident}
use Rattle.room_model.specs.Incidents.{incident_line}
use Rattle.room_model.specs.RoomSlices.{room_of}
use Rattle.room_incident.proofs.incident_list.incident_lines.Given as goal

abbrev pub invariant-loop-at : goal.invariant-loop-at
invariant-loop-at l =
    l.lines
    ≡ map (incident_line l.slice.division (room_of [] l.slice.rows))
    (filter (λ (i : Incident). i.division == l.slice.division && is_active i.state) (take l.at l.slice.rows.incidents))
