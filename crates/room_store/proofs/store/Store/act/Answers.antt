use Rattle.std.proofs.Common.{Ok, ap, arith, refl, subst}
use Rattle.std.specs.Fn.{FnOnceReturnsAt}
use Rattle.sqlite.specs.Held.{state}
use Rattle.room_model.proofs.OneStep.{decided_alike}
use Rattle.room_model.specs.Decisions.{answer_of}
use Rattle.room_store_writes.specs.Configurations.{config_of}
use Rattle.room_store.proofs.StoreLaws.{event_survives, for_room, ready_schema, ready_sound}
use Rattle.room_store.proofs.StoreLaws.{room_moved, settled_kept}
use Rattle.room_store.proofs.LookLaws.{left_same, left_then, survives_read}
use Rattle.room_store_writes.proofs.CommitLaws.{unchanged_survives}
use Rattle.room_tables_schema.specs.FileConnections.{IsClean}
use Rattle.room_store.proofs.store.Store.act.Goals as goal

pub returns-in-Ok-clause-bytes : goal.returns-in-Ok-clause-bytes
returns-in-Ok-clause-bytes g c clean terminals room is addressed =
    let old = c.args.self.now in
    c.in-Ok.ensures.bytes clean (config_of old.plan terminals) room
    (for_room g.S.Store old old c.args.event.now terminals room is addressed (c.in-Ok.ensures.ok clean).was_open)

pub returns-in-Ok-clause-apart : goal.returns-in-Ok-clause-apart
returns-in-Ok-clause-apart g c clean terminals room other is addressed formed agree =
    subst (λ answered. FnOnceReturnsAt g.F.FnOnce c.args.render answered (Ok c.in-Ok.bytes))
    (ap answer_of (decided_alike room other is.formed formed c.args.event.now agree))
    (returns-in-Ok-clause-bytes g c clean terminals room is addressed)

pub returns-in-Ok-clause-ok : goal.returns-in-Ok-clause-ok
returns-in-Ok-clause-ok g c clean terminals room is addressed =
    room_moved g.S.Store c.args.self.now
    (record c.args.self.now { conn = c.act_on.new.conn; cache = c.act_on.new.cache }) c.args.event.now terminals room is
    addressed c.lemma_numbered.ensures refl refl
    (c.in-Ok.ensures.cache clean (config_of c.args.self.now.plan terminals) room
    (for_room g.S.Store c.args.self.now c.args.self.now c.args.event.now terminals room is addressed
    (c.in-Ok.ensures.ok clean).was_open))
    (c.in-Ok.ensures.ok clean)

pub returns-in-Ok-clause-survives : goal.returns-in-Ok-clause-survives
returns-in-Ok-clause-survives g c =
    event_survives g.S.Store c.args.self.now (state g.S.Store c.act_on.new.conn) c.args.event.now
    c.act_on.ensures.survives

pub returns-in-Err-clause-survives : goal.returns-in-Err-clause-survives
returns-in-Err-clause-survives g c =
    survives_read _ _ _ _
    (event_survives g.S.Store c.args.self.now (state g.S.Store c.act_on.new.conn) c.args.event.now
    c.act_on.ensures.survives) c.test_file.ensures.survives

pub returns-then-not-self-clause-err : goal.returns-then-not-self-clause-err
returns-then-not-self-clause-err g c clean = left_same _

pub returns-then-not-self-clause-survives : goal.returns-then-not-self-clause-survives
returns-then-not-self-clause-survives g c = unchanged_survives g.S.Store c.args.self.now.conn _

pub returns-in-Ok-clause-ready : goal.returns-in-Ok-clause-ready
returns-in-Ok-clause-ready g c =
    ready_sound g.S.Store (record c.args.self.now { conn = c.act_on.new.conn; cache = c.act_on.new.cache })
    c.act_on.ensures.ended c.if-not-self.false
    (λ clean. record { schema = (c.in-Ok.ensures.ok clean).schema; settled = (c.in-Ok.ensures.ok clean).settled })

pub returns-in-Ok-clause-settled : goal.returns-in-Ok-clause-settled
returns-in-Ok-clause-settled g c clean = (c.in-Ok.ensures.ok clean).settled

pub returns-in-Ok-clause-only_left : goal.returns-in-Ok-clause-only_left
returns-in-Ok-clause-only_left g c clean =
    (settled_kept g.S.Store (record c.args.self.now { conn = c.act_on.new.conn; cache = c.act_on.new.cache })
    (g.met.S.Store.settled c.act_on.new.conn.store) (c.in-Ok.ensures.ok clean).settled).only_left

pub returns-then-not-self-clause-failed : goal.returns-then-not-self-clause-failed
returns-then-not-self-clause-failed g c = c.requires.ready.unsound c.if-not-self.true

pub act_on-requires-clause-room : goal.act_on-requires-clause-room
act_on-requires-clause-room g c = ready_schema g.S.Store c.args.self.now c.requires.ready c.if-not-self.false

pub act_on-requires-clause-open : goal.act_on-requires-clause-open
act_on-requires-clause-open g c _ clean = (c.requires.ready.sound c.if-not-self.false clean).settled.is_open

pub returns-in-Err-clause-err : goal.returns-in-Err-clause-err
returns-in-Err-clause-err g c clean =
    let early : IsClean g.S.Store c.act_on.new.conn = omega (arith, c.test_file.ensures.survives.clean) in
    left_then _ _ _ (c.in-Err.ensures.err early) (c.test_file.ensures.leaves clean)
