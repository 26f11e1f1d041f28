use Rattle.std.proofs.Common.{Err, Ok, Result, arith, inl, ◌≡◌}
use Rattle.std.proofs.lemmas.Result.{on_ok_weaker}
use Rattle.std.specs.Prelude.{IfOk, OnOk}
use Rattle.sqlite.specs.Held.{state}
use Rattle.sqlite.specs.State.{HasCleanDisk, Survives}
use Rattle.room_store_writes.specs.Configurations.{config_of}
use Rattle.room_store_writes.specs.Transactions.{Leaves}
use Rattle.room_store.proofs.KnownLaws.{knows_nothing}
use Rattle.room_store.proofs.LookLaws.{left_then, survives_read}
use Rattle.room_store.proofs.StoreLaws.{kept_stands, looked_left, ready_schema, room_left}
use Rattle.room_store.proofs.StoreLaws.{settled_kept}
use Rattle.room_store.proofs.store_digest.digest_of_room.Given.{Over}
use Rattle.room_store.proofs.store_digest.digest_of_room.Goals.{After-sound_digest}
use Rattle.room_tables_schema.specs.FileConnections.{IsClean}
use Rattle.room_store.proofs.store_digest.digest_of_room.Goals as goal

-- what is reported of what was read, where it is open
through : {D E F Open : Type 0} {P Q : D → Type 0} (r : Result D E) (from : Result D F)
    → IfOk r (λ x. from ≡ Ok x) → IfOk from P → OnOk r Open → ((x : D) → P x → Open → Q x)
    → IfOk r Q
through (Ok x) (Ok y) is p open_ f = let same : y ≡ x = cc in f x (rw same at p) open_
through (Ok x) (Err e) is p open_ f = absurd (cc)
through (Err e) from is p open_ f = tt

left : (g : Over) (c : After-sound_digest g) → IsClean g.S.Store c.test_file.new.self.conn
    → Leaves (state g.S.Store c.args.store.now.conn) (state g.S.Store c.test_file.new.self.conn)
left g c clean =
    let early : HasCleanDisk (state g.S.Store c.digest_in-digest.new.conn) = omega
    (arith, c.test_file.ensures.survives.clean) in
    left_then _ _ _ (c.digest_in-digest.ensures.leaves early) (c.test_file.ensures.leaves clean)

pub returns-clause-known : goal.returns-clause-known
returns-clause-known g c clean =
    let early : HasCleanDisk (state g.S.Store c.digest_in-digest.new.conn) = omega
    (arith, c.test_file.ensures.survives.clean) in
    through c.sound_digest.result c.digest_in-digest.result c.sound_digest.ensures.read
    (c.digest_in-digest.ensures.digest early)
    c.sound_digest.ensures.sound
    (λ x states sound terminals room is.
    states (config_of c.args.store.now.plan terminals) room
    (is.tables ((left g c clean).was_open (c.test_file.ensures.ready.sound sound clean).settled.is_open)))

pub returns-clause-same : goal.returns-clause-same
returns-clause-same g c clean terminals room is =
    room_left g.S.Store c.args.store.now c.test_file.new.self terminals room (left g c clean) c.test_file.ensures.plan
    (rw c.test_file.ensures.known is.known) (knows_nothing c.test_file.new.self.cache room c.test_file.ensures.nothing)
    is

pub returns-clause-kept : goal.returns-clause-kept
returns-clause-kept g c clean =
    on_ok_weaker c.sound_digest.result
    (λ sound _.
    settled_kept g.S.Store c.test_file.new.self (g.met.S.Store.settled c.test_file.new.self.conn.store)
    (c.test_file.ensures.ready.sound sound clean).settled) c.sound_digest.ensures.sound

pub returns-clause-left : goal.returns-clause-left
returns-clause-left g c clean kept terminals room is =
    let survives : Survives (state g.S.Store c.args.store.now.conn) (state g.S.Store c.test_file.new.self.conn)
    (λ _. ⊥) = survives_read _ _ _ _ c.digest_in-digest.ensures.survives c.test_file.ensures.survives in
    looked_left g.S.Store c.args.store.now c.test_file.new.self c.test_file.ensures.plan clean kept terminals room is
    survives

pub returns-then-not-store-clause-left : goal.returns-then-not-store-clause-left
returns-then-not-store-clause-left g c clean kept terminals room is db left =
    inl (kept_stands g.S.Store c.args.store.now terminals room kept is db left)

pub digest_in-digest-requires-clause-room : goal.digest_in-digest-requires-clause-room
digest_in-digest-requires-clause-room g c =
    ready_schema g.S.Store c.args.store.now c.requires.ready c.if-not-store.false

pub digest_in-digest-requires-clause-outside : goal.digest_in-digest-requires-clause-outside
digest_in-digest-requires-clause-outside g c = c.requires.ready.outside

pub test_file-requires : goal.test_file-requires
test_file-requires g c = record { outside = c.digest_in-digest.ensures.ended }
