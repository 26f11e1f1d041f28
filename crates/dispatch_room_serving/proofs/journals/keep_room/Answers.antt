use Rattle.dispatch_room_journal.specs.Entries.{room}
use Rattle.dispatch_room_serving.proofs.journals.keep_room.Goals as goal

pub keep_entry-requires : goal.keep_entry-requires
keep_entry-requires g c = (room c.args.head.now, c.requires, c.room.ensures)
