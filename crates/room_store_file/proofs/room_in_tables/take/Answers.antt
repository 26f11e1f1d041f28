use Rattle.std.proofs.Common.{arith, inl, inr, refl, subst, sym, ◌≡◌, ◌⊎◌}
use Rattle.std.proofs.lemmas.Result.{IfErr-weaker}
use Rattle.sqlite.specs.Effect.{Database}
use Rattle.sqlite.specs.Held.{state}
use Rattle.sqlite.specs.State.{HasCleanDisk}
use Rattle.room_store_writes.proofs.CommitLaws.{ok_then}
use Rattle.room_tables_schema.proofs.ReadLaws.{any_err}
use Rattle.room_store_check_tables.proofs.StreamLaws.{nothing_then}
use Rattle.room_store_file.proofs.TakeLaws.{any_fault, found_holds, lacking, looked_takes, refused}
use Rattle.room_store_file.proofs.TakeLaws.{survives_less}
use Rattle.room_store_file.specs.OpenedFile.{HoldsBy, MayBecome, ShowsNoVersion, schema_of}
use Rattle.room_store_check_tables.specs.HeldRooms.{IsPlanOf}
use Rattle.room_store_check_tables.specs.ReadCauses.{FailsToTake}
use Rattle.room_store_check_tables.specs.declared.file_faults.FileFault.TheVariants.{NotARoom}
use Rattle.room_store_check_tables.specs.declared.file_faults.FileFault.TheVariants.{Storage}
use Rattle.room_tables_schema.specs.FileConnections.{IsClean}
use Rattle.room_store_file.proofs.room_in_tables.take.Goals as goal

pub stream_plan-found-requires-clause-schema : goal.stream_plan-found-requires-clause-schema
stream_plan-found-requires-clause-schema g c =
    subst (λ t. (state g.S.Store c.args.conn.now).now.schema ≡ schema_of t) c.in-Whole.is c.requires.tables

pub returns-clause-room : goal.returns-clause-room
returns-clause-room g c clean =
    let old = state g.S.Store c.args.conn.now in
    let mid = state g.S.Store c.stream_plan-found.new.conn in
    let early : HasCleanDisk mid = omega (arith, c.if_open.ensures.nothing.survives.clean) in
    let left = (nothing_then old mid (state g.S.Store c.if_open.new.conn) c.stream_plan-found.ensures.nothing
    c.if_open.ensures.nothing).left clean in
    found_holds c.if_open.result c.stream_plan-found.result (IsPlanOf old.now.trees) _ _ c.if_open.ensures.plan
    (c.if_open.ensures.is_open clean) (c.stream_plan-found.ensures.room early)
    (λ plan is_open is. subst (λ (db : Database). IsPlanOf db.trees plan) (sym (left.now_is is_open)) is)

pub returns-clause-takes : goal.returns-clause-takes
returns-clause-takes g c clean =
    let old = state g.S.Store c.args.conn.now in
    let new = state g.S.Store c.if_open.new.conn in
    let left = (nothing_then old (state g.S.Store c.stream_plan-found.new.conn) new c.stream_plan-found.ensures.nothing
    c.if_open.ensures.nothing).left clean in
    ok_then c.if_open.result _ _
    (looked_takes c.args.tables c.in-Whole.is old new c.requires.tables c.requires.committed left)
    (c.if_open.ensures.is_open clean)

pub returns-clause-no_room : goal.returns-clause-no_room
returns-clause-no_room g c clean =
    let old = state g.S.Store c.args.conn.now in
    let early : HasCleanDisk (state g.S.Store c.stream_plan-found.new.conn) = omega
    (arith, c.if_open.ensures.nothing.survives.clean) in
    let none = IfErr-weaker c.stream_plan-found.result _ (λ e. e ≡ NotARoom → ¬ HoldsBy c.args.tables old.now.trees)
    (λ e no is holds. no is (subst (λ t. HoldsBy t old.now.trees) c.in-Whole.is holds))
    (c.stream_plan-found.ensures.no_room early) in
    IfErr-weaker c.if_open.result _ _
    (λ e stated is.
    refused c.stream_plan-found.result NotARoom (λ e. e ≡ NotARoom → ¬ HoldsBy c.args.tables old.now.trees) (stated is)
    none refl) c.if_open.ensures.no_room

pub returns-clause-why : goal.returns-clause-why
returns-clause-why g c clean =
    let old = c.args.conn.now in
    let mid = c.stream_plan-found.new.conn in
    let new = c.if_open.new.conn in
    let early : IsClean g.S.Store mid = omega (arith, c.if_open.ensures.nothing.survives.clean) in
    let found = c.stream_plan-found.result in
    IfErr-weaker c.if_open.result _ _ (λ e stated storage.
    let fails : FailsToTake g.S.Store old mid
    ⊎ ShowsNoVersion (state g.S.Store mid) (state g.S.Store new) =
    elim (stated storage)
    [ inl is ↦ inl (refused found Storage _ is (c.stream_plan-found.ensures.why early) refl) | inr none ↦ inr none ] in
    rw c.in-Whole.is (record { mid = mid; nothing = c.stream_plan-found.ensures.nothing; fails = fails }))
    (c.if_open.ensures.storage clean)

pub returns-clause-leaves : goal.returns-clause-leaves
returns-clause-leaves g c clean =
    any_err c.if_open.result ((nothing_then (state g.S.Store c.args.conn.now)
    (state g.S.Store c.stream_plan-found.new.conn) (state g.S.Store c.if_open.new.conn)
    c.stream_plan-found.ensures.nothing c.if_open.ensures.nothing).left clean)

pub returns-clause-untouched : goal.returns-clause-untouched
returns-clause-untouched g c =
    any_fault c.if_open.result _ (λ e _.
    nothing_then (state g.S.Store c.args.conn.now) (state g.S.Store c.stream_plan-found.new.conn)
    (state g.S.Store c.if_open.new.conn) c.stream_plan-found.ensures.nothing c.if_open.ensures.nothing)

pub returns-clause-survives : goal.returns-clause-survives
returns-clause-survives g c =
    let old = state g.S.Store c.args.conn.now in
    let new = state g.S.Store c.if_open.new.conn in
    survives_less old new (λ _. ⊥) (MayBecome c.args.tables old.now.trees) (λ db none. absurd none)
    (nothing_then old (state g.S.Store c.stream_plan-found.new.conn) new c.stream_plan-found.ensures.nothing
    c.if_open.ensures.nothing).survives

pub returns-in_default : goal.returns-in_default
returns-in_default g c =
    let done = c.read_room_in.ensures in
    record {
      room = done.room;
      takes = done.takes;
      no_room = done.no_room;
      why =
          λ clean.
          lacking g.S.Store c.args.tables c.in_default.not-Whole c.args.conn.now c.read_room_in.new.conn
          c.read_room_in.result (done.why clean);
      leaves = done.leaves;
      untouched = done.untouched;
      ended = done.ended;
      survives = done.survives;
    }
