use Rattle.dispatch_room_board.proofs.Readings.{read_none}
use Rattle.dispatch_room_board.proofs.queue_columns.QueueLineFromJson.from_json.Goals as goal

pub returns-in-None : goal.returns-in-None
returns-in-None c = read_none _ c.in-None.is c.from_json.ensures (λ it. it.entry) (λ it h. h.entry)
