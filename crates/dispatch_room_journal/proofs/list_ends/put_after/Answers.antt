use Rattle.dispatch_room_journal.proofs.PlainLemmas.{body_put, failed_put, record_put}
use Rattle.dispatch_room_journal.proofs.list_ends.put_after.Goals as goal

pub returns-clause-put : goal.returns-clause-put
returns-clause-put g c =
    rw (c.put_record-put.ensures.check, c.is_end.ensures)
    (record_put _ _ c.args.link.now c.args.body.now c.requires.is_one c.requires.comes _ _ _
    c.put_record-put.ensures.written)

pub returns-clause-failed : goal.returns-clause-failed
returns-clause-failed g c = failed_put _ _ _ _ _ _ c.put_record-put.ensures.written

pub returns-clause-written : goal.returns-clause-written
returns-clause-written g c =
    rw (c.put_record-put.ensures.check, c.is_end.ensures)
    (body_put _ _ c.args.link.now c.args.body.now _ _ _ c.put_record-put.ensures.written)
