use Rattle.std.proofs.Common.{refl}
use Rattle.std.proofs.lemmas.Result.{IfErr-weaker, IfOk-weaker}
use Rattle.sqlite.specs.Held.{state}
use Rattle.room_model.specs.RoomSlices.{room_of}
use Rattle.room_store_writes.proofs.CommitLaws.{on_ok}
use Rattle.room_store_check_tables.proofs.Findings.{held_is, none_stored}
use Rattle.room_store_file.proofs.TakeLaws.{becomes_holds, planless_by}
use Rattle.room_store_file.proofs.room_in_tables.find_room.Goals as goal

pub returns-in-Ok-clause-room : goal.returns-in-Ok-clause-room
returns-in-Ok-clause-room g c clean =
    let whole = c.in-Ok.whole in
    IfOk-weaker c.sound_plan.result _ _
    (λ plan sound.
    rw sound.0 (
      whole.config.terminals.items,
      room_of whole.config.plan.areas whole.rows,
      sound.1,
      sound.2,
      refl,
      c.in-Ok.ensures.stands clean,
    )) c.sound_plan.ensures.sound

pub returns-in-Ok-clause-becomes : goal.returns-in-Ok-clause-becomes
returns-in-Ok-clause-becomes g c clean = on_ok _ _ (c.in-Ok.ensures.becomes clean)

pub returns-in-Ok-clause-is_open : goal.returns-in-Ok-clause-is_open
returns-in-Ok-clause-is_open g c clean = on_ok _ _ (c.in-Ok.ensures.is_open clean)

pub returns-in-Ok-clause-inside : goal.returns-in-Ok-clause-inside
returns-in-Ok-clause-inside g c = on_ok _ _ c.in-Ok.ensures.inside

pub returns-in-Ok-clause-no_room : goal.returns-in-Ok-clause-no_room
returns-in-Ok-clause-no_room g c clean =
    let old = state g.S.Store c.args.tx.now.conn.now in
    let new = state g.S.Store c.read_as.new.tx.conn.now in
    let whole = c.in-Ok.whole in
    IfErr-weaker c.sound_plan.result _ _ (λ e none is holds.
    let there = becomes_holds c.args.tables old.now.trees new.now.trees (c.in-Ok.ensures.becomes clean) holds in
    none is (held_is new.now.trees whole.config.plan whole.config.terminals.items
    (room_of whole.config.plan.areas whole.rows) (c.in-Ok.ensures.stands clean) there)) c.sound_plan.ensures.no_room

pub returns-in-Err-clause-no_room : goal.returns-in-Err-clause-no_room
returns-in-Err-clause-no_room g c clean is =
    planless_by c.args.tables (state g.S.Store c.args.tx.now.conn.now).now.trees (c.in-Err.ensures.no_plan clean is)

pub returns-in-Ok-clause-why : goal.returns-in-Ok-clause-why
returns-in-Ok-clause-why g c clean = none_stored c.sound_plan.result _ c.sound_plan.ensures.cause
