use Rattle.room_store_file.proofs.Rooms.{text_shows}
use Rattle.room_store_file.proofs.laws.a_text_shows_one_room.Goals as goal

pub returns : goal.returns
returns c = text_shows
