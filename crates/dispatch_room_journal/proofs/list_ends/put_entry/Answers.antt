use Rattle.dispatch_room_journal.proofs.PlainLemmas.{entry_comes, entry_put, failed_put, never_end}
use Rattle.dispatch_room_journal.proofs.PlainLemmas.{plain_put, shown_entry}
use Rattle.dispatch_room_journal.proofs.list_ends.put_entry.Goals as goal

pub returns-in-Plain-clause-put : goal.returns-in-Plain-clause-put
returns-in-Plain-clause-put g c = rw c.in-Plain.is (plain_put _ _ c.args.entry.now _ _ _ c.write_all.ensures)

pub returns-in-Plain-clause-written : goal.returns-in-Plain-clause-written
returns-in-Plain-clause-written g c = rw c.in-Plain.is (entry_put _ _ c.args.entry.now _ _ _ c.write_all.ensures)

pub returns-in-Plain-clause-failed : goal.returns-in-Plain-clause-failed
returns-in-Plain-clause-failed g c = failed_put _ _ _ _ _ _ c.write_all.ensures

pub put_after-requires-clause-comes : goal.put_after-requires-clause-comes
put_after-requires-clause-comes g c =
    entry_comes c.in-Chain.link.has_ended c.args.entry.now (never_end c.args.entry.now c.requires.says)

pub returns-in-Chain-clause-put : goal.returns-in-Chain-clause-put
returns-in-Chain-clause-put g c =
    rw c.in-Chain.is (rw (shown_entry c.args.entry.now c.requires.says) at c.put_after.ensures.put)

pub returns-in-Chain-clause-written : goal.returns-in-Chain-clause-written
returns-in-Chain-clause-written g c = rw c.in-Chain.is c.put_after.ensures.written
