use Rattle.dispatch_room_board.proofs.Readings.{read_name}
use Rattle.dispatch_room_board.proofs.board_errors.NameFromJson.from_json.Goals as goal

pub returns-in-Some : goal.returns-in-Some
returns-in-Some c = read_name _ _ _ (rw c.in-Some.is at c.as_str.ensures) c.name_of.ensures
