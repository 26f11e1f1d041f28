use Rattle.dispatch_room_board.proofs.Readings.{read_both, read_none}
use Rattle.dispatch_room_board.proofs.report_lines.ReportLineFromJson.from_json.Goals as goal

pub returns-in-None : goal.returns-in-None
returns-in-None c =
    read_none _ c.in-None.is
    (read_both c.zip-members.ensures
    (read_both c.zip-4.ensures
    (read_both c.zip-3.ensures
    (read_both c.zip-2.ensures
    (read_both c.zip.ensures c.member.ensures c.member-2.ensures) c.member-3.ensures) c.member-4.ensures)
    c.member-5.ensures) c.member-6.ensures)
    (λ it. (((((it.number, it.button), it.outcome), it.order), it.place), it.moment))
    (λ it h. (((((h.number, h.button), h.outcome), h.order), h.place), h.moment))

pub returns-in-Some : goal.returns-in-Some
returns-in-Some c =
    let h = (read_both c.in-Some.ensures
    (read_both c.zip-4.ensures
    (read_both c.zip-3.ensures
    (read_both c.zip-2.ensures
    (read_both c.zip.ensures c.member.ensures c.member-2.ensures) c.member-3.ensures) c.member-4.ensures)
    c.member-5.ensures) c.member-6.ensures).is in
    record {
      is = record {
        number = h.0.0.0.0.0;
        button = h.0.0.0.0.1;
        outcome = h.0.0.0.1;
        order = h.0.0.1;
        place = h.0.1;
        moment = h.1;
      };
    }
