use Rattle.dispatch_room_archive.proofs.MadeOfRows.{made_of_rows}
use Rattle.dispatch_room_archive.proofs.laws.a_room_is_made_of_its_rows.Goals as goal

pub returns : goal.returns
returns g = made_of_rows
