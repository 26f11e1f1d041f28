use Rattle.dispatch_room_board.proofs.Readings.{read_both, read_none}
use Rattle.dispatch_room_board.proofs.json_members.PlaceFromJson.from_json.Goals as goal

pub returns-in-None : goal.returns-in-None
returns-in-None c =
    read_none _ c.in-None.is (read_both c.zip.ensures c.item.ensures c.item-2.ensures) (λ it. (it.east, it.north))
    (λ it h. h)
