use Rattle.std.proofs.Common.{rules}
use Rattle.dispatch_room_board.proofs.Readings.{read_both, read_none}
use Rattle.dispatch_room_board.proofs.queue_columns.QueueEntryFromJson.from_json.Goals as goal

pub returns-in-None : goal.returns-in-None
returns-in-None c =
    read_none _ c.in-None.is
    (read_both c.zip-members.ensures
    (read_both c.zip-2.ensures (read_both c.zip.ensures c.member.ensures c.member-2.ensures) c.member-3.ensures)
    c.member-4.ensures)
    (λ it. (((it.rank, it.since), it.number), record { callsign = it.callsign }))
    (λ it h. (((h.rank, h.since), h.number), h.callsign))

pub returns-in-Some : goal.returns-in-Some
returns-in-Some c =
    let h = (read_both c.in-Some.ensures
    (read_both c.zip-2.ensures (read_both c.zip.ensures c.member.ensures c.member-2.ensures) c.member-3.ensures)
    c.member-4.ensures).is in
    record {
      is = record {
        rank = h.0.0.0;
        since = search (rules, h.0.0.1);
        number = search (rules, h.0.1);
        callsign = search (rules, h.1);
      };
    }
