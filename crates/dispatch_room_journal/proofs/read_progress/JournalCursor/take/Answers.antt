use Rattle.std.proofs.Common.{arith, length-drop}
use Rattle.dispatch_room_journal.specs.declared.record_headers.TheConstants.{HEADER}
use Rattle.dispatch_room_journal.proofs.read_progress.JournalCursor.take.Goals as goal

pub invariant_of-self-else-is_no_entry : goal.invariant_of-self-else-is_no_entry
invariant_of-self-else-is_no_entry c =
    rw c.remove-else-is_no_entry.ensures
    (omega (arith, c.requires.whole, length-drop HEADER c.args.self.now.inbox))

pub returns-else-is_no_entry-clause-shorter : goal.returns-else-is_no_entry-clause-shorter
returns-else-is_no_entry-clause-shorter c =
    rw c.remove-else-is_no_entry.ensures
    (omega (arith, c.requires.whole, length-drop HEADER c.args.self.now.inbox))
