use Rattle.std.proofs.Common.{arith, refl}
use Rattle.sqlite.specs.Held.{state}
use Rattle.room_store_writes.specs.Configurations.{config_of}
use Rattle.room_store.proofs.EnrolledLaws.{in_plan, room_after_row, store_survives}
use Rattle.room_store.proofs.KnownLaws.{knows_nothing}
use Rattle.room_store.proofs.LookLaws.{left_same, left_then, survives_read}
use Rattle.room_store.proofs.StoreLaws.{ready_schema, ready_sound, settled_kept}
use Rattle.room_store_writes.proofs.CommitLaws.{unchanged_survives}
use Rattle.room_tables_schema.specs.FileConnections.{IsClean}
use Rattle.room_store.proofs.store.Store.enrol.Goals as goal

pub returns-in-Ok-clause-fate : goal.returns-in-Ok-clause-fate
returns-in-Ok-clause-fate g c clean terminals room is =
    let old = c.args.self.now in
    c.in-Ok.ensures.fate clean (config_of old.plan terminals) room
    (in_plan g.S.Store old old c.args.row.now terminals room is (c.in-Ok.ensures.ok clean).was_open)

pub returns-in-Ok-clause-ok : goal.returns-in-Ok-clause-ok
returns-in-Ok-clause-ok g c clean terminals room is =
    room_after_row g.S.Store c.args.self.now
    (record c.args.self.now { conn = c.add_fate.new.conn; cache = c.forget.new.self }) c.args.row.now terminals room is
    refl refl c.forget.ensures (c.in-Ok.ensures.ok clean)

pub returns-in-Ok-clause-cache : goal.returns-in-Ok-clause-cache
returns-in-Ok-clause-cache g c room _ = knows_nothing c.forget.new.self room c.forget.ensures

pub returns-in-Err-clause-cache : goal.returns-in-Err-clause-cache
returns-in-Err-clause-cache g c room _ = knows_nothing c.test_file.new.self.cache room c.test_file.ensures.nothing

pub returns-in-Ok-clause-survives : goal.returns-in-Ok-clause-survives
returns-in-Ok-clause-survives g c =
    store_survives g.S.Store c.args.self.now (state g.S.Store c.add_fate.new.conn) c.args.row.now
    c.add_fate.ensures.survives

pub returns-in-Err-clause-survives : goal.returns-in-Err-clause-survives
returns-in-Err-clause-survives g c =
    survives_read _ _ _ _
    (store_survives g.S.Store c.args.self.now (state g.S.Store c.add_fate.new.conn) c.args.row.now
    c.add_fate.ensures.survives) c.test_file.ensures.survives

pub returns-then-not-self-clause-err : goal.returns-then-not-self-clause-err
returns-then-not-self-clause-err g c clean = left_same _

pub returns-then-not-self-clause-survives : goal.returns-then-not-self-clause-survives
returns-then-not-self-clause-survives g c = unchanged_survives g.S.Store c.args.self.now.conn _

pub returns-in-Ok-clause-ready : goal.returns-in-Ok-clause-ready
returns-in-Ok-clause-ready g c =
    ready_sound g.S.Store (record c.args.self.now { conn = c.add_fate.new.conn; cache = c.forget.new.self })
    c.add_fate.ensures.ended c.if-not-self.false
    (λ clean. record { schema = (c.in-Ok.ensures.ok clean).schema; settled = (c.in-Ok.ensures.ok clean).settled })

pub returns-in-Ok-clause-settled : goal.returns-in-Ok-clause-settled
returns-in-Ok-clause-settled g c clean = (c.in-Ok.ensures.ok clean).settled

pub returns-in-Ok-clause-only_left : goal.returns-in-Ok-clause-only_left
returns-in-Ok-clause-only_left g c clean =
    (settled_kept g.S.Store (record c.args.self.now { conn = c.add_fate.new.conn; cache = c.forget.new.self })
    (g.met.S.Store.settled c.add_fate.new.conn.store) (c.in-Ok.ensures.ok clean).settled).only_left

pub add_fate-requires-clause-room : goal.add_fate-requires-clause-room
add_fate-requires-clause-room g c = ready_schema g.S.Store c.args.self.now c.requires.ready c.if-not-self.false

pub returns-in-Err-clause-err : goal.returns-in-Err-clause-err
returns-in-Err-clause-err g c clean =
    let early : IsClean g.S.Store c.add_fate.new.conn = omega
    (arith, c.test_file.ensures.survives.clean) in
    left_then _ _ _ (c.in-Err.ensures.err early) (c.test_file.ensures.leaves clean)
