use Rattle.dispatch_room_board.proofs.Readings.{read_both, read_none}
use Rattle.dispatch_room_board.proofs.vehicle_columns.VehicleLineFromJson.from_json.Goals as goal

pub returns-in-None : goal.returns-in-None
returns-in-None c =
    read_none _ c.in-None.is
    (read_both c.zip-members.ensures
    (read_both c.zip-6.ensures
    (read_both c.zip-5.ensures
    (read_both c.zip-4.ensures
    (read_both c.zip-3.ensures
    (read_both c.zip-2.ensures (read_both c.zip.ensures c.member.ensures c.member-2.ensures) c.member-3.ensures)
    c.member-4.ensures) c.member-5.ensures) c.member-6.ensures) c.member-7.ensures) c.member-8.ensures)
    (λ it. (((((((it.callsign, it.home), it.incident), it.kind), it.place), it.post), it.shift_end), it.status))
    (λ it h. (((((((h.callsign, h.home), h.incident), h.kind), h.place), h.post), h.shift_end), h.status))

pub returns-in-Some : goal.returns-in-Some
returns-in-Some c =
    let h = (read_both c.in-Some.ensures
    (read_both c.zip-6.ensures
    (read_both c.zip-5.ensures
    (read_both c.zip-4.ensures
    (read_both c.zip-3.ensures
    (read_both c.zip-2.ensures (read_both c.zip.ensures c.member.ensures c.member-2.ensures) c.member-3.ensures)
    c.member-4.ensures) c.member-5.ensures) c.member-6.ensures) c.member-7.ensures) c.member-8.ensures).is in
    record {
      is = record {
        callsign = h.0.0.0.0.0.0.0;
        home = h.0.0.0.0.0.0.1;
        incident = h.0.0.0.0.0.1;
        kind = h.0.0.0.0.1;
        place = h.0.0.0.1;
        post = h.0.0.1;
        shift_end = h.0.1;
        status = h.1;
      };
    }
