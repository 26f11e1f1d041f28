use Rattle.dispatch_room_board.proofs.Readings.{read_both, read_none}
use Rattle.dispatch_room_board.proofs.incident_columns.IncidentLineFromJson.from_json.Goals as goal

pub returns-in-None : goal.returns-in-None
returns-in-None c =
    read_none _ c.in-None.is
    (read_both c.zip-members.ensures
    (read_both c.zip-5.ensures
    (read_both c.zip-4.ensures
    (read_both c.zip-3.ensures
    (read_both c.zip-2.ensures (read_both c.zip.ensures c.member.ensures c.member-2.ensures) c.member-3.ensures)
    c.member-4.ensures) c.member-5.ensures) c.member-6.ensures) c.member-7.ensures)
    (λ it. ((((((it.number, it.place), it.class), it.needs), it.lack), it.opened), it.calls))
    (λ it h. ((((((h.number, h.place), h.class), h.needs), h.lack), h.opened), h.calls))

pub returns-in-Some : goal.returns-in-Some
returns-in-Some c =
    let h = (read_both c.in-Some.ensures
    (read_both c.zip-5.ensures
    (read_both c.zip-4.ensures
    (read_both c.zip-3.ensures
    (read_both c.zip-2.ensures (read_both c.zip.ensures c.member.ensures c.member-2.ensures) c.member-3.ensures)
    c.member-4.ensures) c.member-5.ensures) c.member-6.ensures) c.member-7.ensures).is in
    record {
      is = record {
        number = h.0.0.0.0.0.0;
        place = h.0.0.0.0.0.1;
        class = h.0.0.0.0.1;
        needs = h.0.0.0.1;
        lack = h.0.0.1;
        opened = h.0.1;
        calls = h.1;
      };
    }
