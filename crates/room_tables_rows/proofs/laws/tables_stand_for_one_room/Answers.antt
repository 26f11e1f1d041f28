use Rattle.room_tables_rows.proofs.OneRoom.{one_config, one_room}
use Rattle.room_tables_rows.proofs.laws.tables_stand_for_one_room.Goals as goal

pub returns : goal.returns
returns c = record { config = one_config; room = one_room }
