use Rattle.std.proofs.Common.{arith, subst, ◌∙◌}
use Rattle.sqlite.specs.Held.{state}
use Rattle.room_model.specs.Room.{apply}
use Rattle.room_store_cache.specs.Cache.{IsCacheOf}
use Rattle.room_store.proofs.ActLaws.{acted, acted_survives}
use Rattle.room_store.proofs.LookLaws.{left_failed, left_later, left_unchanged, room_read}
use Rattle.room_store.proofs.LookLaws.{settled_read, survives_more}
use Rattle.room_tables_schema.proofs.ReadLaws.{any_err}
use Rattle.room_tables_schema.specs.FileConnections.{IsClean}
use Rattle.room_store.proofs.event_runs.add_answer.Goals as goal

pub returns-clause-answer : goal.returns-clause-answer
returns-clause-answer g c clean config room h =
    let early : IsClean g.S.Store c.answered.new.conn = omega (arith, c.write.ensures.survives.clean) in
    rw (c.in-Ok.ensures.answer early config room h) at c.in_ok-push.ensures.items

pub returns-clause-ok : goal.returns-clause-ok
returns-clause-ok g c clean =
    let early : IsClean g.S.Store c.answered.new.conn = omega (arith, c.write.ensures.survives.clean) in
    acted _ _ _ c.args.plan.now c.args.cache.now c.args.event.now c.as_slice.result.now c.in-Ok.ensures.reads.ok
    (λ sound config room h. c.as_slice.ensures ∙ c.in-Ok.ensures.changes sound config room h) early
    (c.in_default.ensures.ok clean)

pub returns-clause-cache : goal.returns-clause-cache
returns-clause-cache g c clean config room h =
    let early : IsClean g.S.Store c.answered.new.conn = omega (arith, c.write.ensures.survives.clean) in
    let known = c.in-Ok.ensures.cache early config room h in
    let same = c.as_slice-2.ensures ∙ c.in-Ok.ensures.changes early config room h in
    subst (λ changes. IsCacheOf c.apply.new.self (apply room changes)) same (c.apply.ensures room h.formed.order known)

pub returns-clause-survives : goal.returns-clause-survives
returns-clause-survives g c =
    acted_survives _ _ _ c.args.plan.now c.args.cache.now c.args.event.now c.as_slice.result.now
    c.in-Ok.ensures.reads.ok
    (λ sound config room h. c.as_slice.ensures ∙ c.in-Ok.ensures.changes sound config room h)
    c.answered.ensures.reads.survives c.write.ensures.survives

pub returns-clause-ended : goal.returns-clause-ended
returns-clause-ended g c = c.write.ensures.ended

pub answered-requires-clause-room : goal.answered-requires-clause-room
answered-requires-clause-room g c = c.requires.room

pub answered-requires-clause-open : goal.answered-requires-clause-open
answered-requires-clause-open g c = c.requires.open

pub returns-in-Err-clause-err : goal.returns-in-Err-clause-err
returns-in-Err-clause-err g c clean =
    left_failed _ _ (c.lemma_committed.ensures c.requires.outside) (c.in-Err.ensures.reads.err clean)

pub returns-in-Err-clause-ended : goal.returns-in-Err-clause-ended
returns-in-Err-clause-ended g c = c.answered.ensures.reads.mode c.requires.outside

pub returns-in-Err-clause-survives : goal.returns-in-Err-clause-survives
returns-in-Err-clause-survives g c = survives_more _ _ _ c.answered.ensures.reads.survives

pub returns-in_err-push-clause-err : goal.returns-in_err-push-clause-err
returns-in_err-push-clause-err g c clean =
    any_err c.from_residual.result (left_unchanged (state g.S.Store c.args.conn.now)
    (state g.S.Store c.answered.new.conn) (c.in-Ok.ensures.reads.ok clean))

pub returns-in_err-push-clause-ended : goal.returns-in_err-push-clause-ended
returns-in_err-push-clause-ended g c = c.answered.ensures.reads.mode c.requires.outside

pub returns-in_err-push-clause-survives : goal.returns-in_err-push-clause-survives
returns-in_err-push-clause-survives g c = survives_more _ _ _ c.answered.ensures.reads.survives

pub write-requires-clause-room : goal.write-requires-clause-room
write-requires-clause-room g c =
    room_read g.S.Store c.args.conn.now c.answered.new.conn c.in-Ok.ensures.reads.ok c.answered.ensures.reads.survives
    c.requires.room

pub write-requires-clause-outside : goal.write-requires-clause-outside
write-requires-clause-outside g c = c.answered.ensures.reads.mode c.requires.outside

pub write-requires-clause-settled : goal.write-requires-clause-settled
write-requires-clause-settled g c =
    settled_read g.S.Store c.args.conn.now c.answered.new.conn c.in-Ok.ensures.reads.ok
    (c.lemma_committed.ensures c.requires.outside)

pub returns-in-Err-write-clause-err : goal.returns-in-Err-write-clause-err
returns-in-Err-write-clause-err g c clean =
    let early : IsClean g.S.Store c.answered.new.conn = omega (arith, c.write.ensures.survives.clean) in
    left_later _ _ _ (c.in-Ok.ensures.reads.ok early) (c.in-Err-write.ensures.err clean)

pub returns-in-Err-write-clause-ended : goal.returns-in-Err-write-clause-ended
returns-in-Err-write-clause-ended g c = c.write.ensures.ended

pub returns-in-Err-write-clause-survives : goal.returns-in-Err-write-clause-survives
returns-in-Err-write-clause-survives g c =
    acted_survives _ _ _ c.args.plan.now c.args.cache.now c.args.event.now c.as_slice.result.now
    c.in-Ok.ensures.reads.ok
    (λ sound config room h. c.as_slice.ensures ∙ c.in-Ok.ensures.changes sound config room h)
    c.answered.ensures.reads.survives c.write.ensures.survives
