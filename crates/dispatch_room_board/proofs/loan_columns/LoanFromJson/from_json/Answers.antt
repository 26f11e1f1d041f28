use Rattle.dispatch_room_board.proofs.Readings.{read_both, read_none}
use Rattle.dispatch_room_board.proofs.loan_columns.LoanFromJson.from_json.Goals as goal

pub returns-in-None : goal.returns-in-None
returns-in-None c =
    read_none _ c.in-None.is
    (read_both c.zip-members.ensures
    (read_both c.zip-4.ensures
    (read_both c.zip-3.ensures
    (read_both c.zip-2.ensures (read_both c.zip.ensures c.member.ensures c.member-2.ensures) c.member-3.ensures)
    c.member-4.ensures) c.member-5.ensures) c.member-6.ensures)
    (λ it. (((((it.callsign, it.lender), it.borrower), it.since), it.until), it.recalled))
    (λ it h. (((((h.callsign, h.lender), h.borrower), h.since), h.until), h.recalled))

pub returns-in-Some : goal.returns-in-Some
returns-in-Some c =
    let h = (read_both c.in-Some.ensures
    (read_both c.zip-4.ensures
    (read_both c.zip-3.ensures
    (read_both c.zip-2.ensures (read_both c.zip.ensures c.member.ensures c.member-2.ensures) c.member-3.ensures)
    c.member-4.ensures) c.member-5.ensures) c.member-6.ensures).is in
    record {
      is = record {
        callsign = h.0.0.0.0.0;
        lender = h.0.0.0.0.1;
        borrower = h.0.0.0.1;
        since = h.0.0.1;
        until = h.0.1;
        recalled = h.1;
      };
    }
