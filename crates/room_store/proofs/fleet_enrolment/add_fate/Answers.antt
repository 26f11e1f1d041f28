use Rattle.std.proofs.Common.{arith}
use Rattle.sqlite.specs.Held.{state}
use Rattle.room_tables_schema.proofs.ReadLaws.{any_err}
use Rattle.room_store.proofs.EnrolledLaws.{row_enrolled, row_survives}
use Rattle.room_store.proofs.LookLaws.{left_failed, left_later, left_unchanged, room_read}
use Rattle.room_store.proofs.LookLaws.{settled_read, survives_more}
use Rattle.room_tables_schema.specs.FileConnections.{IsClean}
use Rattle.room_store.proofs.fleet_enrolment.add_fate.Goals as goal

pub returns-in-Ok-clause-ok : goal.returns-in-Ok-clause-ok
returns-in-Ok-clause-ok g c clean =
    let early : IsClean g.S.Store c.find_fate.new.conn = omega (arith, c.write.ensures.survives.clean) in
    row_enrolled _ _ _ c.args.plan.now c.args.row.now c.in_ok-fate.fate c.in_ok-fate.ensures.reads.ok
    c.in_ok-fate.ensures.fate early (c.in-Ok.ensures.ok clean)

pub returns-in-Ok-clause-survives : goal.returns-in-Ok-clause-survives
returns-in-Ok-clause-survives g c =
    row_survives _ _ _ c.args.plan.now c.args.row.now c.in_ok-fate.fate c.in_ok-fate.ensures.reads.ok
    c.in_ok-fate.ensures.fate c.find_fate.ensures.reads.survives c.write.ensures.survives

pub returns-in-Err-clause-survives : goal.returns-in-Err-clause-survives
returns-in-Err-clause-survives g c =
    row_survives _ _ _ c.args.plan.now c.args.row.now c.in_ok-fate.fate c.in_ok-fate.ensures.reads.ok
    c.in_ok-fate.ensures.fate c.find_fate.ensures.reads.survives c.write.ensures.survives

pub returns-in_err-fate-clause-err : goal.returns-in_err-fate-clause-err
returns-in_err-fate-clause-err g c clean =
    any_err c.from_residual.result (left_failed (state g.S.Store c.args.conn.now) (state g.S.Store c.find_fate.new.conn)
    (c.lemma_committed.ensures c.requires.outside)
    (c.in_err-fate.ensures.reads.err clean))

pub returns-in_err-fate-clause-ended : goal.returns-in_err-fate-clause-ended
returns-in_err-fate-clause-ended g c = c.find_fate.ensures.reads.mode c.requires.outside

pub returns-in_err-fate-clause-survives : goal.returns-in_err-fate-clause-survives
returns-in_err-fate-clause-survives g c = survives_more _ _ _ c.find_fate.ensures.reads.survives

pub returns-in_err-push-clause-err : goal.returns-in_err-push-clause-err
returns-in_err-push-clause-err g c clean =
    any_err c.from_residual-in_err-push.result (left_unchanged (state g.S.Store c.args.conn.now)
    (state g.S.Store c.find_fate.new.conn) (c.in_ok-fate.ensures.reads.ok clean))

pub returns-in_err-push-clause-ended : goal.returns-in_err-push-clause-ended
returns-in_err-push-clause-ended g c = c.find_fate.ensures.reads.mode c.requires.outside

pub returns-in_err-push-clause-survives : goal.returns-in_err-push-clause-survives
returns-in_err-push-clause-survives g c = survives_more _ _ _ c.find_fate.ensures.reads.survives

pub write-requires-clause-room : goal.write-requires-clause-room
write-requires-clause-room g c =
    room_read g.S.Store c.args.conn.now c.find_fate.new.conn c.in_ok-fate.ensures.reads.ok
    c.find_fate.ensures.reads.survives c.requires.room

pub write-requires-clause-outside : goal.write-requires-clause-outside
write-requires-clause-outside g c = c.find_fate.ensures.reads.mode c.requires.outside

pub write-requires-clause-settled : goal.write-requires-clause-settled
write-requires-clause-settled g c =
    settled_read g.S.Store c.args.conn.now c.find_fate.new.conn c.in_ok-fate.ensures.reads.ok
    (c.lemma_committed.ensures c.requires.outside)

pub returns-in-Err-clause-err : goal.returns-in-Err-clause-err
returns-in-Err-clause-err g c clean =
    let early : IsClean g.S.Store c.find_fate.new.conn = omega (arith, c.write.ensures.survives.clean) in
    left_later _ _ _ (c.in_ok-fate.ensures.reads.ok early) (c.in-Err.ensures.err clean)
