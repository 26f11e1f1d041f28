use Rattle.std.proofs.Common.{arith, inr, subst, sym}
use Rattle.std.proofs.lemmas.Result.{IfErr-weaker, IfOk-weaker}
use Rattle.sqlite.specs.Effect.{Database}
use Rattle.sqlite.specs.Held.{state}
use Rattle.sqlite.specs.State.{HasCleanDisk}
use Rattle.room_tables.proofs.ReadFailures.{holds_on}
use Rattle.room_store_check_tables.proofs.Findings.{held_numbered, none_stored}
use Rattle.room_store_check_tables.proofs.StreamLaws.{file_fails, is_no_room, is_plan, nothing_then}
use Rattle.room_store_check_tables.specs.HeldRooms.{HoldsRoom}
use Rattle.room_tables_schema.specs.FileConnections.{IsClean}
use Rattle.room_store_check_tables.proofs.streamed_plan.stream_plan.Goals as goal

pub returns-in-Ok-clause-room : goal.returns-in-Ok-clause-room
returns-in-Ok-clause-room g c clean =
    let old = state g.S.Store c.args.conn.now in
    let mid = state g.S.Store c.config_of_file.new.conn in
    let early : HasCleanDisk mid = omega (arith, c.in-Ok.ensures.nothing.survives.clean) in
    let config = c.in_ok-config.config in
    let left = c.in_ok-config.ensures.nothing.left early in
    IfOk-weaker c.plan_of_judged.result _ _
    (λ plan is.
    rw is.0 (is_plan old mid left.now_is config.plan config.terminals.items (c.in_ok-config.ensures.found early)
    c.in-Ok.judged (c.in-Ok.ensures.found clean) is.1)) c.plan_of_judged.ensures.sound

pub returns-in-Ok-clause-no_room : goal.returns-in-Ok-clause-no_room
returns-in-Ok-clause-no_room g c clean =
    let old = state g.S.Store c.args.conn.now in
    let mid = state g.S.Store c.config_of_file.new.conn in
    let early : HasCleanDisk mid = omega (arith, c.in-Ok.ensures.nothing.survives.clean) in
    let config = c.in_ok-config.config in
    let left = c.in_ok-config.ensures.nothing.left early in
    IfErr-weaker c.plan_of_judged.result _ _
    (λ e shows is.
    is_no_room old mid left.now_is config.plan config.terminals.items (c.in_ok-config.ensures.found early)
    c.in-Ok.judged (c.in-Ok.ensures.found clean) (shows is)) c.plan_of_judged.ensures.no_room

pub returns-in-Ok-clause-nothing : goal.returns-in-Ok-clause-nothing
returns-in-Ok-clause-nothing g c = nothing_then _ _ _ c.in_ok-config.ensures.nothing c.in-Ok.ensures.nothing

pub returns-in-Err-clause-no_room : goal.returns-in-Err-clause-no_room
returns-in-Err-clause-no_room g c clean none holds =
    let old = state g.S.Store c.args.conn.now in
    let mid = state g.S.Store c.config_of_file.new.conn in
    let early : HasCleanDisk mid = omega (arith, c.in-Err.ensures.nothing.survives.clean) in
    let un = c.in-Err.ensures.unnumbered clean none in
    let same = (c.in_ok-config.ensures.nothing.left early).now_is un.0 in
    un.1 (held_numbered mid.now.trees (subst (λ (db : Database). HoldsRoom db.trees) (sym same) holds))

pub returns-in-Err-clause-nothing : goal.returns-in-Err-clause-nothing
returns-in-Err-clause-nothing g c = nothing_then _ _ _ c.in_ok-config.ensures.nothing c.in-Err.ensures.nothing

pub returns-in_err-config-clause-why : goal.returns-in_err-config-clause-why
returns-in_err-config-clause-why g c clean =
    holds_on _ c.in_err-config.field-0.0 _ c.from_residual.ensures.1
    (λ storage. inr (c.in_err-config.ensures.why clean storage))

pub returns-in-Ok-clause-why : goal.returns-in-Ok-clause-why
returns-in-Ok-clause-why g c clean = none_stored c.plan_of_judged.result _ c.plan_of_judged.ensures.cause

pub returns-in-Err-clause-why : goal.returns-in-Err-clause-why
returns-in-Err-clause-why g c clean storage =
    let mid = c.config_of_file.new.conn in
    let early : IsClean g.S.Store mid = omega (arith, c.in-Err.ensures.nothing.survives.clean) in
    let config = c.in_ok-config.ensures.nothing in
    file_fails g.S.Store c.args.conn.now mid _ config early c.in-Err.ensures.nothing.survives.counts c.requires.schema
    (c.in-Err.ensures.why clean storage)
