use Rattle.dispatch_room_board.proofs.Readings.{read_both, read_none}
use Rattle.dispatch_room_board.proofs.turn_columns.TurnLineFromJson.from_json.Goals as goal

pub returns-in-None : goal.returns-in-None
returns-in-None c =
    let sent =
    read_both c.zip-sent.ensures
    (read_both c.zip-2.ensures (read_both c.zip.ensures c.member.ensures c.member-2.ensures) c.member-3.ensures)
    c.member-4.ensures in
    let steps =
    read_both c.zip-steps.ensures
    (read_both c.zip-4.ensures (read_both c.zip-3.ensures c.member-5.ensures c.member-6.ensures) c.member-7.ensures)
    c.member-8.ensures in
    let end = read_both c.zip-end.ensures c.member-9.ensures c.member-10.ensures in
    read_none _ c.in-None.is (read_both c.zip-members.ensures (read_both c.zip-5.ensures sent steps) end)
    (λ it. (
      ((((it.callsign, it.kind), it.order), it.ordered), (((it.acknowledged, it.scene), it.left), it.hospital)),
      (it.ended, it.stood_down),
    ))
    (λ it h. (
      ((((h.callsign, h.kind), h.order), h.ordered), (((h.acknowledged, h.scene), h.left), h.hospital)),
      (h.ended, h.stood_down),
    ))

pub returns-in-Some : goal.returns-in-Some
returns-in-Some c =
    let sent =
    read_both c.zip-sent.ensures
    (read_both c.zip-2.ensures (read_both c.zip.ensures c.member.ensures c.member-2.ensures) c.member-3.ensures)
    c.member-4.ensures in
    let steps =
    read_both c.zip-steps.ensures
    (read_both c.zip-4.ensures (read_both c.zip-3.ensures c.member-5.ensures c.member-6.ensures) c.member-7.ensures)
    c.member-8.ensures in
    let end = read_both c.zip-end.ensures c.member-9.ensures c.member-10.ensures in
    let h = (read_both c.in-Some.ensures (read_both c.zip-5.ensures sent steps) end).is in
    record {
      is = record {
        callsign = h.0.0.0.0.0;
        kind = h.0.0.0.0.1;
        order = h.0.0.0.1;
        ordered = h.0.0.1;
        acknowledged = h.0.1.0.0.0;
        scene = h.0.1.0.0.1;
        left = h.0.1.0.1;
        hospital = h.0.1.1;
        ended = h.1.0;
        stood_down = h.1.1;
      };
    }
