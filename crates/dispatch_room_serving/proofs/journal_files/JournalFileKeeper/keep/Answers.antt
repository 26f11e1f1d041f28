use Rattle.dispatch_room_serving.proofs.KeeperLemmas.{entry_body, entry_says}
use Rattle.dispatch_room_serving.proofs.journal_files.JournalFileKeeper.keep.Goals as goal

pub put_entry-requires-clause-is_one : goal.put_entry-requires-clause-is_one
put_entry-requires-clause-is_one g c = entry_body c.args.entry.now c.requires.is_one

pub put_entry-requires-clause-says : goal.put_entry-requires-clause-says
put_entry-requires-clause-says g c = entry_says c.args.entry.now c.requires.is_one
