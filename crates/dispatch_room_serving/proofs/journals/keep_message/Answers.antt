use Rattle.dispatch_room_journal.specs.Entries.{message}
use Rattle.dispatch_room_serving.proofs.journals.keep_message.Goals as goal

pub keep_entry-requires : goal.keep_entry-requires
keep_entry-requires g c = (message c.args.at c.args.bytes.now, c.requires, c.message.ensures)
