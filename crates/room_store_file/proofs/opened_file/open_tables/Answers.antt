use Rattle.std.proofs.Common.{IsTrue, inr, rules, sym, ◌∙◌, ◌≡◌}
use Rattle.sqlite.specs.Held.{state}
use Rattle.room_store_file.proofs.FileLaws.{may_be_indexed, takes_opens}
use Rattle.room_store_file.proofs.TakeLaws.{has_tables, holds_new, open_reported, storage_reported}
use Rattle.room_store_file.proofs.TakeLaws.{survives_less}
use Rattle.room_store_file.specs.OpenedFile.{MayBeIndexed, schema_of}
use Rattle.room_store_file.proofs.opened_file.open_tables.Goals as goal

pub returns-in-Ok-clause-opens : goal.returns-in-Ok-clause-opens
returns-in-Ok-clause-opens g c clean =
    let old = state g.S.Store c.args.conn.now in
    let settled : IsTrue old.is_open → old.now ≡ old.committed = search rules in
    let has : old.now.schema ≡ schema_of c.in-Some.tables = search rules in
    takes_opens old (state g.S.Store c.take.new.conn) c.in-Some.tables has c.in-Some.ensures.tables.1 settled
    (c.in-Ok.ensures.takes clean)

pub returns-in-Err-clause-no_room : goal.returns-in-Err-clause-no_room
returns-in-Err-clause-no_room g c clean is has holds =
    let none = open_reported c.in-Err.fault (sym c.from.ensures ∙ is) in
    c.in-Err.ensures.no_room clean none (holds_new c.in-Some.tables _ c.in-Some.ensures.tables.1 holds)

pub returns-in-Err-clause-storage : goal.returns-in-Err-clause-storage
returns-in-Err-clause-storage g c clean is =
    let old = state g.S.Store c.args.conn.now in
    let has : old.now.schema ≡ schema_of c.in-Some.tables = search rules in
    has_tables c.in-Some.tables old.now.schema has c.in-Some.ensures.tables.1

pub returns-in-Err-clause-why : goal.returns-in-Err-clause-why
returns-in-Err-clause-why g c clean is =
    let has : (state g.S.Store c.args.conn.now).now.schema ≡ schema_of c.in-Some.tables = search rules in
    (c.in-Some.tables, has, c.in-Err.ensures.why clean (storage_reported c.in-Err.fault (sym c.from.ensures ∙ is)))

pub returns-in-Err-clause-untouched : goal.returns-in-Err-clause-untouched
returns-in-Err-clause-untouched g c is =
    c.in-Err.ensures.untouched (open_reported c.in-Err.fault (sym c.from.ensures ∙ is))

pub returns-in-Ok-clause-survives : goal.returns-in-Ok-clause-survives
returns-in-Ok-clause-survives g c =
    let old = state g.S.Store c.args.conn.now in
    let has : old.now.schema ≡ schema_of c.in-Some.tables = search rules in
    survives_less old (state g.S.Store c.take.new.conn) _ (MayBeIndexed old.now)
    (λ db left. inr (may_be_indexed c.in-Some.tables old.now db has c.in-Some.ensures.tables.1 left))
    c.take.ensures.survives

pub returns-in-Err-clause-survives : goal.returns-in-Err-clause-survives
returns-in-Err-clause-survives g c =
    let old = state g.S.Store c.args.conn.now in
    let has : old.now.schema ≡ schema_of c.in-Some.tables = search rules in
    survives_less old (state g.S.Store c.take.new.conn) _ (MayBeIndexed old.now)
    (λ db left. inr (may_be_indexed c.in-Some.tables old.now db has c.in-Some.ensures.tables.1 left))
    c.take.ensures.survives
