use Rattle.std.proofs.Common.{arith, inr, refl, subst, sym, ◌∙◌}
use Rattle.room_model.specs.Room.{apply}
use Rattle.room_store_cache.specs.Cache.{IsCacheOf}
use Rattle.room_store.proofs.ActLaws.{acted, acted_survives, missed, reached}
use Rattle.room_store.proofs.LookLaws.{left_failed, left_later, room_read, settled_read}
use Rattle.room_store.proofs.LookLaws.{survives_more}
use Rattle.room_model.specs.Digests.{IsMiss}
use Rattle.room_store.proofs.Misses.{another_reported, miss_is, reaches_weaker}
use Rattle.room_tables_schema.specs.FileConnections.{IsClean}
use Rattle.room_store.proofs.store.Store.commit_towards.Goals as goal

pub returns-clause-bytes : goal.returns-clause-bytes
returns-clause-bytes g c clean config room h =
    let early : IsClean g.S.Store c.prepare.new.conn = omega
    (arith, c.write_towards.ensures.survives.clean) in
    c.in-Ok.ensures.bytes early config room h

pub returns-clause-ok : goal.returns-clause-ok
returns-clause-ok g c clean =
    let early : IsClean g.S.Store c.prepare.new.conn = omega
    (arith, c.write_towards.ensures.survives.clean) in
    acted _ _ _ c.args.self.now.plan c.args.self.now.cache c.args.event.now c.as_slice.result.now
    c.in-Ok.ensures.reads.ok
    (λ sound config room h. c.as_slice.ensures ∙ c.in-Ok.ensures.changes sound config room h) early
    (c.in_default.ensures.ok clean)

pub returns-clause-cache : goal.returns-clause-cache
returns-clause-cache g c clean config room h =
    let early : IsClean g.S.Store c.prepare.new.conn = omega
    (arith, c.write_towards.ensures.survives.clean) in
    let known = c.in-Ok.ensures.cache early config room h in
    let same = c.as_slice-2.ensures ∙ c.in-Ok.ensures.changes early config room h in
    subst (λ changes. IsCacheOf c.apply.new.self (apply room changes)) same (c.apply.ensures room h.formed.order known)

pub returns-clause-survives : goal.returns-clause-survives
returns-clause-survives g c =
    acted_survives _ _ _ c.args.self.now.plan c.args.self.now.cache c.args.event.now c.as_slice.result.now
    c.in-Ok.ensures.reads.ok
    (λ sound config room h. c.as_slice.ensures ∙ c.in-Ok.ensures.changes sound config room h)
    c.prepare.ensures.reads.survives
    (reaches_weaker c.as_slice.result.now c.args.head.now _ _ _ c.write_towards.ensures.survives)

pub returns-in-Err-write_towards-clause-survives : goal.returns-in-Err-write_towards-clause-survives
returns-in-Err-write_towards-clause-survives g c =
    acted_survives _ _ _ c.args.self.now.plan c.args.self.now.cache c.args.event.now c.as_slice.result.now
    c.in-Ok.ensures.reads.ok
    (λ sound config room h. c.as_slice.ensures ∙ c.in-Ok.ensures.changes sound config room h)
    c.prepare.ensures.reads.survives
    (reaches_weaker c.as_slice.result.now c.args.head.now _ _ _ c.write_towards.ensures.survives)

pub prepare-requires-clause-room : goal.prepare-requires-clause-room
prepare-requires-clause-room g c = c.requires.room

pub prepare-requires-clause-open : goal.prepare-requires-clause-open
prepare-requires-clause-open g c = c.requires.open

pub returns-in-Err-clause-err : goal.returns-in-Err-clause-err
returns-in-Err-clause-err g c clean =
    left_failed _ _
    (c.lemma_committed.ensures c.requires.outside)
    (c.in-Err.ensures.reads.err clean)

pub returns-in-Err-clause-ended : goal.returns-in-Err-clause-ended
returns-in-Err-clause-ended g c = c.prepare.ensures.reads.mode c.requires.outside

pub returns-in-Err-clause-survives : goal.returns-in-Err-clause-survives
returns-in-Err-clause-survives g c = survives_more _ _ _ c.prepare.ensures.reads.survives

pub write_towards-requires-clause-room : goal.write_towards-requires-clause-room
write_towards-requires-clause-room g c =
    room_read g.S.Store c.args.self.now.conn c.prepare.new.conn c.in-Ok.ensures.reads.ok
    c.prepare.ensures.reads.survives c.requires.room

pub write_towards-requires-clause-outside : goal.write_towards-requires-clause-outside
write_towards-requires-clause-outside g c = c.prepare.ensures.reads.mode c.requires.outside

pub write_towards-requires-clause-settled : goal.write_towards-requires-clause-settled
write_towards-requires-clause-settled g c =
    settled_read g.S.Store c.args.self.now.conn c.prepare.new.conn c.in-Ok.ensures.reads.ok
    (c.lemma_committed.ensures c.requires.outside)

pub returns-in-Err-write_towards-clause-err : goal.returns-in-Err-write_towards-clause-err
returns-in-Err-write_towards-clause-err g c clean =
    let early : IsClean g.S.Store c.prepare.new.conn = omega
    (arith, c.write_towards.ensures.survives.clean) in
    left_later _ _ _ (c.in-Ok.ensures.reads.ok early) (c.in-Err-write_towards.ensures.err clean)

pub returns-in-Err-write_towards-clause-ended : goal.returns-in-Err-write_towards-clause-ended
returns-in-Err-write_towards-clause-ended g c = c.write_towards.ensures.ended

pub returns-clause-ended : goal.returns-clause-ended
returns-clause-ended g c = c.write_towards.ensures.ended

pub returns-clause-reaches : goal.returns-clause-reaches
returns-clause-reaches g c clean config room h =
    let early : IsClean g.S.Store c.prepare.new.conn = omega
    (arith, c.write_towards.ensures.survives.clean) in
    reached _ _ c.args.self.now.plan c.args.self.now.cache c.args.event.now c.as_slice.result.now c.args.head.now
    c.in-Ok.ensures.reads.ok
    (λ sound config room h. c.as_slice.ensures ∙ c.in-Ok.ensures.changes sound config room h) early config room h
    (c.in_default.ensures.reaches clean)

pub returns-in-Err-write_towards-clause-another : goal.returns-in-Err-write_towards-clause-another
returns-in-Err-write_towards-clause-another g c clean is config room h =
    let early : IsClean g.S.Store c.prepare.new.conn = omega
    (arith, c.write_towards.ensures.survives.clean) in
    missed _ _ c.args.self.now.plan c.args.self.now.cache c.args.event.now c.as_slice.result.now c.args.head.now
    c.in-Ok.ensures.reads.ok
    (λ sound config room h. c.as_slice.ensures ∙ c.in-Ok.ensures.changes sound config room h) early config room h
    (c.in-Err-write_towards.ensures.another clean
    (another_reported c.in-Err-write_towards.undone (sym c.miss_of.ensures ∙ is)))

pub returns-in-Err-write_towards-clause-unavailable : goal.returns-in-Err-write_towards-clause-unavailable
returns-in-Err-write_towards-clause-unavailable g c =
    subst IsMiss (sym c.miss_of.ensures) (miss_is c.in-Err-write_towards.undone)

pub returns-in-Err-clause-unavailable : goal.returns-in-Err-clause-unavailable
returns-in-Err-clause-unavailable g c = inr (_, refl, c.in-Err.ensures.unavailable)

pub returns-in-Err-clause-another : goal.returns-in-Err-clause-another
returns-in-Err-clause-another g c clean is = absurd (cc is)
