use Rattle.dispatch_room_board.proofs.Readings.{read_both, read_none}
use Rattle.dispatch_room_board.proofs.json_members.CountsFromJson.from_json.Goals as goal

pub returns-in-None : goal.returns-in-None
returns-in-None c =
    read_none _ c.in-None.is
    (read_both c.zip-members.ensures (read_both c.zip.ensures c.item.ensures c.item-2.ensures) c.item-3.ensures)
    (λ it. ((it.ambulances, it.cars), it.support)) (λ it h. ((h.0, h.1), h.2))
