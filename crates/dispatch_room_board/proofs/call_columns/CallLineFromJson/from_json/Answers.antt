use Rattle.dispatch_room_board.proofs.Readings.{read_both, read_none}
use Rattle.dispatch_room_board.proofs.call_columns.CallLineFromJson.from_json.Goals as goal

pub returns-in-None : goal.returns-in-None
returns-in-None c =
    read_none _ c.in-None.is
    (read_both c.zip-members.ensures
    (read_both c.zip-6.ensures
    (read_both c.zip-5.ensures
    (read_both c.zip-4.ensures
    (read_both c.zip-3.ensures
    (read_both c.zip-2.ensures
    (read_both c.zip.ensures c.member.ensures c.member-2.ensures) c.member-3.ensures) c.member-4.ensures)
    c.member-5.ensures) c.member-6.ensures) c.member-7.ensures) c.member-8.ensures)
    (λ it. (((((((it.position, it.serial), it.linked), it.place), it.class), it.needs), it.moment), it.note))
    (λ it h. (((((((h.position, h.serial), h.linked), h.place), h.class), h.needs), h.moment), h.note))

pub returns-in-Some : goal.returns-in-Some
returns-in-Some c =
    let h = (read_both c.in-Some.ensures
    (read_both c.zip-6.ensures
    (read_both c.zip-5.ensures
    (read_both c.zip-4.ensures
    (read_both c.zip-3.ensures
    (read_both c.zip-2.ensures
    (read_both c.zip.ensures c.member.ensures c.member-2.ensures) c.member-3.ensures) c.member-4.ensures)
    c.member-5.ensures) c.member-6.ensures) c.member-7.ensures) c.member-8.ensures).is in
    record {
      is = record {
        position = h.0.0.0.0.0.0.0;
        serial = h.0.0.0.0.0.0.1;
        linked = h.0.0.0.0.0.1;
        place = h.0.0.0.0.1;
        class = h.0.0.0.1;
        needs = h.0.0.1;
        moment = h.0.1;
        note = h.1;
      };
    }
