use Rattle.dispatch_room_board.proofs.Readings.{read_both, read_none}
use Rattle.dispatch_room_board.proofs.history_lines.HistoryFromAnswer.from_answer.Goals as goal

pub returns-in-None : goal.returns-in-None
returns-in-None c =
    read_none _ c.in-None.is
    (read_both c.zip-members.ensures
    (read_both c.zip.ensures c.from_json-summary.ensures c.in_ok-calls.ensures) c.in_ok-turns.ensures)
    (λ it. ((it.summary, it.calls), it.turns)) (λ it h. ((h.summary, h.calls), h.turns))

pub returns-in-Some : goal.returns-in-Some
returns-in-Some c =
    let h = (read_both c.in-Some.ensures
    (read_both c.zip.ensures c.from_json-summary.ensures c.in_ok-calls.ensures) c.in_ok-turns.ensures).is in
    record { is = record { summary = h.0.0; calls = h.0.1; turns = h.1 } }
