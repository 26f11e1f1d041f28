use Rattle.dispatch_room_journal.proofs.RoomLaws.{the_room_law}
use Rattle.dispatch_room_journal.proofs.replay_laws.the_list_is_the_room.Goals as goal

pub returns : goal.returns
returns c = the_room_law
