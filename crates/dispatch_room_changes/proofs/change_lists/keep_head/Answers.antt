use Rattle.std.proofs.Common.{◌∙◌}
use Rattle.dispatch_room_journal.specs.Entries.{room}
use Rattle.dispatch_room_serving.proofs.KeeperLemmas.{entry_body, entry_says}
use Rattle.dispatch_room_changes.proofs.change_lists.keep_head.Goals as goal

pub put_entry-requires-clause-is_one : goal.put_entry-requires-clause-is_one
put_entry-requires-clause-is_one g c =
    entry_body c.bytes.result.now (room c.args.head.now, c.requires.digest, c.bytes.ensures ∙ c.room-entry.ensures)

pub put_entry-requires-clause-says : goal.put_entry-requires-clause-says
put_entry-requires-clause-says g c =
    entry_says c.bytes.result.now (room c.args.head.now, c.requires.digest, c.bytes.ensures ∙ c.room-entry.ensures)
