use Rattle.std.proofs.Common.{arith, inr, refl, ◌∙◌}
use Rattle.sqlite.specs.Held.{state}
use Rattle.room_store_writes.specs.Configurations.{config_of}
use Rattle.room_store.proofs.StoreLaws.{event_survives, for_room, ready_schema, ready_sound}
use Rattle.room_store.proofs.StoreLaws.{room_moved}
use Rattle.room_store.proofs.LookLaws.{left_same, left_then, survives_read}
use Rattle.room_store_writes.proofs.CommitLaws.{unchanged_survives}
use Rattle.room_tables_schema.specs.FileConnections.{IsClean}
use Rattle.room_store.proofs.store.Store.act_towards.Goals as goal

pub returns-in-Ok-clause-bytes : goal.returns-in-Ok-clause-bytes
returns-in-Ok-clause-bytes g c clean terminals room is addressed =
    let old = c.args.self.now in
    c.in-Ok.ensures.bytes clean (config_of old.plan terminals) room
    (for_room g.S.Store old old c.args.event.now terminals room is addressed (c.in-Ok.ensures.ok clean).was_open)

pub returns-in-Ok-clause-ok : goal.returns-in-Ok-clause-ok
returns-in-Ok-clause-ok g c clean terminals room is addressed =
    let old = c.args.self.now in
    let it = for_room g.S.Store old old c.args.event.now terminals room is addressed
    (c.in-Ok.ensures.ok clean).was_open in (
      room_moved g.S.Store old c.commit_towards.new.self c.args.event.now terminals room is addressed
          c.lemma_numbered.ensures c.commit_towards.ensures.plan c.commit_towards.ensures.known
          (c.in-Ok.ensures.cache clean (config_of old.plan terminals) room it) (c.in-Ok.ensures.ok clean),
      c.in-Ok.ensures.reaches clean (config_of old.plan terminals) room it,
    )

pub returns-in-Ok-clause-survives : goal.returns-in-Ok-clause-survives
returns-in-Ok-clause-survives g c =
    event_survives g.S.Store c.args.self.now (state g.S.Store c.commit_towards.new.self.conn) c.args.event.now
    c.commit_towards.ensures.survives

pub returns-in-Ok-clause-ready : goal.returns-in-Ok-clause-ready
returns-in-Ok-clause-ready g c =
    ready_sound g.S.Store c.commit_towards.new.self c.commit_towards.ensures.ended
    (c.commit_towards.ensures.sound ∙ c.if-not-self.false)
    (λ clean. record { schema = (c.in-Ok.ensures.ok clean).schema; settled = (c.in-Ok.ensures.ok clean).settled })

pub returns-in-Ok-clause-settled : goal.returns-in-Ok-clause-settled
returns-in-Ok-clause-settled g c clean = (c.in-Ok.ensures.ok clean).settled

pub returns-then-not-self-clause-err : goal.returns-then-not-self-clause-err
returns-then-not-self-clause-err g c clean = left_same _

pub returns-then-not-self-clause-survives : goal.returns-then-not-self-clause-survives
returns-then-not-self-clause-survives g c = unchanged_survives g.S.Store c.args.self.now.conn _

pub returns-then-not-self-clause-failed : goal.returns-then-not-self-clause-failed
returns-then-not-self-clause-failed g c = c.requires.ready.unsound c.if-not-self.true

pub commit_towards-requires-clause-room : goal.commit_towards-requires-clause-room
commit_towards-requires-clause-room g c = ready_schema g.S.Store c.args.self.now c.requires.ready c.if-not-self.false

pub commit_towards-requires-clause-open : goal.commit_towards-requires-clause-open
commit_towards-requires-clause-open g c _ clean = (c.requires.ready.sound c.if-not-self.false clean).settled.is_open

pub returns-in-Err-clause-survives : goal.returns-in-Err-clause-survives
returns-in-Err-clause-survives g c =
    survives_read _ _ _ _
    (event_survives g.S.Store c.args.self.now (state g.S.Store c.commit_towards.new.self.conn) c.args.event.now
    c.commit_towards.ensures.survives) c.test_file.ensures.survives

pub returns-in-Err-clause-err : goal.returns-in-Err-clause-err
returns-in-Err-clause-err g c clean =
    let early : IsClean g.S.Store c.commit_towards.new.self.conn = omega
    (arith, c.test_file.ensures.survives.clean) in
    left_then _ _ _ (c.in-Err.ensures.err early) (c.test_file.ensures.leaves clean)

pub returns-in-Err-clause-settled : goal.returns-in-Err-clause-settled
returns-in-Err-clause-settled g c clean is =
    (c.test_file.ensures.ready.sound (c.after_test.ensures.sound is) clean).settled

pub returns-in-Err-clause-another : goal.returns-in-Err-clause-another
returns-in-Err-clause-another g c clean is terminals room stands addressed =
    let old = c.args.self.now in
    let early : IsClean g.S.Store c.commit_towards.new.self.conn = omega
    (arith, c.test_file.ensures.survives.clean) in
    let open_ = (returns-in-Err-clause-err g c clean).was_open (returns-in-Err-clause-settled g c clean is).is_open in
    c.in-Err.ensures.another early (c.after_test.ensures.same is) (config_of old.plan terminals) room
    (for_room g.S.Store old old c.args.event.now terminals room stands addressed open_)

pub returns-in-Err-clause-unavailable : goal.returns-in-Err-clause-unavailable
returns-in-Err-clause-unavailable g c = c.after_test.ensures.missed c.in-Err.ensures.unavailable

pub returns-then-not-self-clause-another : goal.returns-then-not-self-clause-another
returns-then-not-self-clause-another g c clean is = absurd (cc is)

pub returns-then-not-self-clause-settled : goal.returns-then-not-self-clause-settled
returns-then-not-self-clause-settled g c clean is = absurd (cc is)

pub returns-then-not-self-clause-unavailable : goal.returns-then-not-self-clause-unavailable
returns-then-not-self-clause-unavailable g c = inr (_, refl, inr refl)
