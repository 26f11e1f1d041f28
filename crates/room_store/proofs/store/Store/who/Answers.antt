use Rattle.std.proofs.Common.{ap, arith, refl, sym, ◌∙◌}
use Rattle.std.specs.Prelude.{option_map}
use Rattle.room_types.specs.declared.fleet.Terminal.{Terminal}
use Rattle.room_store_writes.specs.Configurations.{config_of}
use Rattle.room_store.proofs.KnownLaws.{knows_nothing, looked_up}
use Rattle.room_store.proofs.LookLaws.{left_failed, left_same, left_then, left_unchanged}
use Rattle.room_store.proofs.LookLaws.{shows_read, survives_read}
use Rattle.room_store.proofs.StoreLaws.{ready_schema, ready_sound, room_left}
use Rattle.room_store_writes.proofs.CommitLaws.{unchanged_survives}
use Rattle.room_tables_schema.specs.FileConnections.{IsClean}
use Rattle.room_store.proofs.store.Store.who.Goals as goal

pub returns-then-not-self-clause-leaves : goal.returns-then-not-self-clause-leaves
returns-then-not-self-clause-leaves g c clean = left_same _

pub returns-then-not-self-clause-survives : goal.returns-then-not-self-clause-survives
returns-then-not-self-clause-survives g c = unchanged_survives g.S.Store c.args.self.now.conn _

pub returns-in-Some-clause-known : goal.returns-in-Some-clause-known
returns-in-Some-clause-known g c clean terminals room is =
    sym (ap (option_map (λ (t : Terminal). t.who)) (c.in-Some.ensures terminals is.known))

pub returns-in-Some-clause-leaves : goal.returns-in-Some-clause-leaves
returns-in-Some-clause-leaves g c clean = left_same _

pub returns-in-Some-clause-survives : goal.returns-in-Some-clause-survives
returns-in-Some-clause-survives g c = unchanged_survives g.S.Store c.args.self.now.conn _

pub returns-in-Ok-None-clause-known : goal.returns-in-Ok-None-clause-known
returns-in-Ok-None-clause-known g c clean terminals room is =
    ap (option_map (λ (t : Terminal). t.who)) (sym c.in-Ok-None.field-0-is
    ∙ c.in-Ok-None.ensures.row clean (config_of c.args.self.now.plan terminals) room
    (is.tables (c.in-Ok-None.ensures.reads.ok clean).0.was_open))

pub returns-in-Ok-Some-clause-known : goal.returns-in-Ok-Some-clause-known
returns-in-Ok-Some-clause-known g c clean terminals room is =
    ap (option_map (λ (t : Terminal). t.who)) (sym c.in-Ok-Some.field-0-is
    ∙ c.in-Ok-Some.ensures.row clean (config_of c.args.self.now.plan terminals) room
    (is.tables (c.in-Ok-Some.ensures.reads.ok clean).0.was_open))

pub returns-in-Ok-None-clause-same : goal.returns-in-Ok-None-clause-same
returns-in-Ok-None-clause-same g c clean terminals room is =
    room_left g.S.Store c.args.self.now (record c.args.self.now { conn = c.terminal_at.new.conn }) terminals room
    (left_unchanged _ _ (c.in-Ok-None.ensures.reads.ok clean)) refl is.known is.cache is

pub returns-in-Ok-Some-clause-same : goal.returns-in-Ok-Some-clause-same
returns-in-Ok-Some-clause-same g c clean terminals room is =
    let old = c.args.self.now in
    let same = c.in-Ok-Some.ensures.reads.ok clean in
    let found = c.in-Ok-Some.ensures.row clean (config_of old.plan terminals) room (is.tables same.0.was_open) in
    room_left g.S.Store old (record old { conn = c.terminal_at.new.conn; terminals = c.fill.new.self }) terminals room
    (left_unchanged _ _ same) refl
    (c.fill.ensures terminals is.known
    (looked_up terminals c.args.token.now c.in-Ok-Some.terminal (sym c.in-Ok-Some.field-0-is ∙ found))) is.cache is

pub terminal_at-requires : goal.terminal_at-requires
terminal_at-requires g c = record { room = ready_schema g.S.Store c.args.self.now c.requires.ready c.if-not-self.false }

pub returns-in-Ok-None-clause-ready : goal.returns-in-Ok-None-clause-ready
returns-in-Ok-None-clause-ready g c =
    let old = c.args.self.now in
    ready_sound g.S.Store (record old { conn = c.terminal_at.new.conn })
    (c.terminal_at.ensures.reads.mode c.requires.ready.outside) c.if-not-self.false
    (shows_read g.S.Store old.conn c.terminal_at.new.conn c.in-Ok-None.ensures.reads.ok
    c.terminal_at.ensures.reads.survives (ready_schema g.S.Store old c.requires.ready c.if-not-self.false)
    (c.lemma_committed.ensures c.requires.ready.outside))

pub returns-in-Ok-None-clause-leaves : goal.returns-in-Ok-None-clause-leaves
returns-in-Ok-None-clause-leaves g c clean = left_unchanged _ _ (c.in-Ok-None.ensures.reads.ok clean)

pub returns-in-Ok-None-clause-survives : goal.returns-in-Ok-None-clause-survives
returns-in-Ok-None-clause-survives g c = c.terminal_at.ensures.reads.survives

pub returns-in-Ok-Some-clause-ready : goal.returns-in-Ok-Some-clause-ready
returns-in-Ok-Some-clause-ready g c =
    let old = c.args.self.now in
    ready_sound g.S.Store (record old { conn = c.terminal_at.new.conn; terminals = c.fill.new.self })
    (c.terminal_at.ensures.reads.mode c.requires.ready.outside) c.if-not-self.false
    (shows_read g.S.Store old.conn c.terminal_at.new.conn c.in-Ok-Some.ensures.reads.ok
    c.terminal_at.ensures.reads.survives (ready_schema g.S.Store old c.requires.ready c.if-not-self.false)
    (c.lemma_committed.ensures c.requires.ready.outside))

pub returns-in-Ok-Some-clause-leaves : goal.returns-in-Ok-Some-clause-leaves
returns-in-Ok-Some-clause-leaves g c clean = left_unchanged _ _ (c.in-Ok-Some.ensures.reads.ok clean)

pub returns-in-Ok-Some-clause-survives : goal.returns-in-Ok-Some-clause-survives
returns-in-Ok-Some-clause-survives g c = c.terminal_at.ensures.reads.survives

pub returns-then-not-self-clause-failed : goal.returns-then-not-self-clause-failed
returns-then-not-self-clause-failed g c = c.requires.ready.unsound c.if-not-self.true

pub test_file-requires : goal.test_file-requires
test_file-requires g c = record { outside = c.terminal_at.ensures.reads.mode c.requires.ready.outside }

pub returns-in-Err-clause-leaves : goal.returns-in-Err-clause-leaves
returns-in-Err-clause-leaves g c clean =
    let early : IsClean g.S.Store c.terminal_at.new.conn = omega
    (arith, c.test_file.ensures.survives.clean) in
    left_then _ _ _
    (left_failed _ _
    (c.lemma_committed.ensures c.requires.ready.outside) (c.in-Err.ensures.reads.err early))
    (c.test_file.ensures.leaves clean)

pub returns-in-Err-clause-same : goal.returns-in-Err-clause-same
returns-in-Err-clause-same g c clean terminals room is =
    room_left g.S.Store c.args.self.now c.test_file.new.self terminals room (returns-in-Err-clause-leaves g c clean)
    c.test_file.ensures.plan (rw c.test_file.ensures.known is.known)
    (knows_nothing c.test_file.new.self.cache room c.test_file.ensures.nothing) is

pub returns-in-Err-clause-survives : goal.returns-in-Err-clause-survives
returns-in-Err-clause-survives g c =
    survives_read _ _ _ _ c.terminal_at.ensures.reads.survives c.test_file.ensures.survives
