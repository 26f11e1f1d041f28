use Rattle.std.proofs.Common.{arith, inl, inr, subst, sym, true≢false, ◌∙◌}
use Rattle.std.proofs.lemmas.Result.{IfErr-weaker}
use Rattle.sqlite.specs.Effect.{Database}
use Rattle.sqlite.specs.Held.{state}
use Rattle.room_store_file.proofs.ExaminedLaws.{not_older}
use Rattle.room_store_file.specs.ExaminedFile.{Explains}
use Rattle.room_store_file.specs.OpenedFile.{IsOldRoom}
use Rattle.room_tables_schema.specs.FileConnections.{IsClean}
use Rattle.room_store_file.proofs.examined_file.read_room.Goals as goal

pub returns-in-Ok-false-clause-wrong : goal.returns-in-Ok-false-clause-wrong
returns-in-Ok-false-clause-wrong g c clean =
    let early : IsClean g.S.Store c.is_room_of.new.conn = omega
    (arith, c.read_tables.ensures.nothing.survives.clean) in
    let stated = c.in-Ok-false.ensures.test early in
    let none : ¬ IsOldRoom (state g.S.Store c.args.conn.now).now = λ old.
    true≢false (sym (stated.1 old) ∙ c.in-Ok-false.field-0-test) in
    IfErr-weaker c.read_tables.result _ _
    (λ e why.
    inl (
      subst (λ (db : Database). Explains db e) (c.in-Ok-false.ensures.ok early) why,
      not_older (state g.S.Store c.args.conn.now).now none e,
    )) (c.read_tables.ensures.wrong clean)

pub returns-in-Ok-false-clause-why : goal.returns-in-Ok-false-clause-why
returns-in-Ok-false-clause-why g c clean =
    let early : IsClean g.S.Store c.is_room_of.new.conn = omega
    (arith, c.read_tables.ensures.nothing.survives.clean) in
    IfErr-weaker c.read_tables.result _ _
    (λ e why storage.
    inr (record {
      mid = c.is_room_of.new.conn;
      same = c.in-Ok-false.ensures.ok early;
      nothing = c.is_room_of.ensures.nothing;
      fails = why storage;
    })) (c.read_tables.ensures.why clean)
