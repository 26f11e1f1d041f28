use Rattle.dispatch_room_board.proofs.Readings.{read_both, read_none}
use Rattle.dispatch_room_board.proofs.summary_columns.IncidentSummaryFromJson.from_json.Goals as goal

pub returns-in-None : goal.returns-in-None
returns-in-None c =
    read_none _ c.in-None.is
    (read_both c.zip-members.ensures
    (read_both c.zip-7.ensures
    (read_both c.zip-6.ensures
    (read_both c.zip-5.ensures
    (read_both c.zip-4.ensures
    (read_both c.zip-3.ensures
    (read_both c.zip-2.ensures
    (read_both c.zip.ensures c.member.ensures c.member-2.ensures) c.member-3.ensures) c.member-4.ensures)
    c.member-5.ensures) c.member-6.ensures) c.member-7.ensures) c.member-8.ensures) c.member-9.ensures)
    (λ it.
    ((((((((it.number, it.state), it.into), it.class), it.place), it.needs), it.served), it.opened), it.first_order))
    (λ it h. ((((((((h.number, h.state), h.into), h.class), h.place), h.needs), h.served), h.opened), h.first_order))

pub returns-in-Some : goal.returns-in-Some
returns-in-Some c =
    let h = (read_both c.in-Some.ensures
    (read_both c.zip-7.ensures
    (read_both c.zip-6.ensures
    (read_both c.zip-5.ensures
    (read_both c.zip-4.ensures
    (read_both c.zip-3.ensures
    (read_both c.zip-2.ensures
    (read_both c.zip.ensures c.member.ensures c.member-2.ensures) c.member-3.ensures) c.member-4.ensures)
    c.member-5.ensures) c.member-6.ensures) c.member-7.ensures) c.member-8.ensures) c.member-9.ensures).is in
    record {
      is = record {
        number = h.0.0.0.0.0.0.0.0;
        state = h.0.0.0.0.0.0.0.1;
        into = h.0.0.0.0.0.0.1;
        class = h.0.0.0.0.0.1;
        place = h.0.0.0.0.1;
        needs = h.0.0.0.1;
        served = h.0.0.1;
        opened = h.0.1;
        first_order = h.1;
      };
    }
