use Rattle.dispatch_room_board.proofs.Readings.{read_both, read_none}
use Rattle.dispatch_room_board.proofs.point_columns.PointLineFromJson.from_json.Goals as goal

pub returns-in-None : goal.returns-in-None
returns-in-None c =
    read_none _ c.in-None.is
    (read_both c.zip-members.ensures
    (read_both c.zip-2.ensures (read_both c.zip.ensures c.member.ensures c.member-2.ensures) c.member-3.ensures)
    c.member-4.ensures)
    (λ it. (((it.number, it.place), it.cover), it.held)) (λ it h. (((h.number, h.place), h.cover), h.held))

pub returns-in-Some : goal.returns-in-Some
returns-in-Some c =
    let h = (read_both c.in-Some.ensures
    (read_both c.zip-2.ensures (read_both c.zip.ensures c.member.ensures c.member-2.ensures) c.member-3.ensures)
    c.member-4.ensures).is in
    record { is = record { number = h.0.0.0; place = h.0.0.1; cover = h.0.1; held = h.1 } }
