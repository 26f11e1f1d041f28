use Rattle.std.proofs.Common.{arith, refl}
use Rattle.sqlite.specs.Held.{state}
use Rattle.room_store_writes.specs.Configurations.{config_of}
use Rattle.room_store.proofs.StoreLaws.{event_survives, for_room, ready_schema, ready_sound}
use Rattle.room_store.proofs.StoreLaws.{room_moved, settled_kept}
use Rattle.room_store.proofs.LookLaws.{left_same, left_then, survives_read}
use Rattle.room_store_writes.proofs.CommitLaws.{unchanged_survives}
use Rattle.room_tables_schema.specs.FileConnections.{IsClean}
use Rattle.room_store.proofs.store.Store.answer.Goals as goal

pub returns-in-Ok-clause-answer : goal.returns-in-Ok-clause-answer
returns-in-Ok-clause-answer g c clean terminals room is addressed =
    let old = c.args.self.now in
    c.in-Ok.ensures.answer clean (config_of old.plan terminals) room
    (for_room g.S.Store old old c.args.event.now terminals room is addressed (c.in-Ok.ensures.ok clean).was_open)

pub returns-in-Ok-clause-ok : goal.returns-in-Ok-clause-ok
returns-in-Ok-clause-ok g c clean terminals room is addressed =
    let old = c.args.self.now in
    room_moved g.S.Store old (record old { conn = c.add_answer.new.conn; cache = c.add_answer.new.cache })
    c.args.event.now terminals room is addressed c.lemma_numbered.ensures refl refl
    (c.in-Ok.ensures.cache clean (config_of old.plan terminals) room
    (for_room g.S.Store old old c.args.event.now terminals room is addressed (c.in-Ok.ensures.ok clean).was_open))
    (c.in-Ok.ensures.ok clean)

pub returns-in-Ok-clause-survives : goal.returns-in-Ok-clause-survives
returns-in-Ok-clause-survives g c =
    event_survives g.S.Store c.args.self.now (state g.S.Store c.add_answer.new.conn) c.args.event.now
    c.add_answer.ensures.survives

pub returns-in-Err-clause-survives : goal.returns-in-Err-clause-survives
returns-in-Err-clause-survives g c =
    survives_read _ _ _ _
    (event_survives g.S.Store c.args.self.now (state g.S.Store c.add_answer.new.conn) c.args.event.now
    c.add_answer.ensures.survives) c.test_file.ensures.survives

pub returns-then-not-self-clause-err : goal.returns-then-not-self-clause-err
returns-then-not-self-clause-err g c clean = left_same _

pub returns-then-not-self-clause-survives : goal.returns-then-not-self-clause-survives
returns-then-not-self-clause-survives g c = unchanged_survives g.S.Store c.args.self.now.conn _

pub returns-in-Ok-clause-ready : goal.returns-in-Ok-clause-ready
returns-in-Ok-clause-ready g c =
    ready_sound g.S.Store (record c.args.self.now { conn = c.add_answer.new.conn; cache = c.add_answer.new.cache })
    c.add_answer.ensures.ended c.if-not-self.false
    (λ clean. record { schema = (c.in-Ok.ensures.ok clean).schema; settled = (c.in-Ok.ensures.ok clean).settled })

pub returns-in-Ok-clause-settled : goal.returns-in-Ok-clause-settled
returns-in-Ok-clause-settled g c clean = (c.in-Ok.ensures.ok clean).settled

pub returns-in-Ok-clause-only_left : goal.returns-in-Ok-clause-only_left
returns-in-Ok-clause-only_left g c clean =
    (settled_kept g.S.Store (record c.args.self.now { conn = c.add_answer.new.conn; cache = c.add_answer.new.cache })
    (g.met.S.Store.settled c.add_answer.new.conn.store) (c.in-Ok.ensures.ok clean).settled).only_left

pub returns-then-not-self-clause-failed : goal.returns-then-not-self-clause-failed
returns-then-not-self-clause-failed g c = c.requires.ready.unsound c.if-not-self.true

pub add_answer-requires-clause-room : goal.add_answer-requires-clause-room
add_answer-requires-clause-room g c = ready_schema g.S.Store c.args.self.now c.requires.ready c.if-not-self.false

pub add_answer-requires-clause-open : goal.add_answer-requires-clause-open
add_answer-requires-clause-open g c _ clean = (c.requires.ready.sound c.if-not-self.false clean).settled.is_open

pub returns-in-Err-clause-err : goal.returns-in-Err-clause-err
returns-in-Err-clause-err g c clean =
    let early : IsClean g.S.Store c.add_answer.new.conn = omega (arith, c.test_file.ensures.survives.clean) in
    left_then _ _ _ (c.in-Err.ensures.err early) (c.test_file.ensures.leaves clean)
