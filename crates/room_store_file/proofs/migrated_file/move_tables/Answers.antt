use Rattle.std.proofs.Common.{inr, rules, sym, ◌∙◌, ◌≡◌}
use Rattle.sqlite.specs.Held.{state}
use Rattle.room_store_file.proofs.FileLaws.{may_be_moved, takes_moves}
use Rattle.room_store_file.proofs.TakeLaws.{holds_first, open_reported, survives_less}
use Rattle.room_store_file.specs.OpenedFile.{MayBeMoved, schema_of}
use Rattle.room_store_file.proofs.migrated_file.move_tables.Goals as goal

pub returns-in-Ok-clause-moves : goal.returns-in-Ok-clause-moves
returns-in-Ok-clause-moves g c clean =
    let old = state g.S.Store c.args.conn.now in
    let has : old.now.schema ≡ schema_of c.in-Some.tables = search rules in
    takes_moves old (state g.S.Store c.read_room_in.new.conn) c.in-Some.tables has c.in-Some.ensures.tables.1
    (c.in-Ok.ensures.takes clean)

pub returns-in-Err-clause-no_room : goal.returns-in-Err-clause-no_room
returns-in-Err-clause-no_room g c clean is has holds =
    let none = open_reported c.in-Err.fault (sym c.from.ensures ∙ is) in
    c.in-Err.ensures.no_room clean none (holds_first c.in-Some.tables _ c.in-Some.ensures.tables.1 holds)

pub returns-in-Err-clause-untouched : goal.returns-in-Err-clause-untouched
returns-in-Err-clause-untouched g c is =
    c.in-Err.ensures.untouched (open_reported c.in-Err.fault (sym c.from.ensures ∙ is))

pub returns-in-Ok-clause-survives : goal.returns-in-Ok-clause-survives
returns-in-Ok-clause-survives g c =
    let old = state g.S.Store c.args.conn.now in
    let has : old.now.schema ≡ schema_of c.in-Some.tables = search rules in
    survives_less old (state g.S.Store c.read_room_in.new.conn) _ (MayBeMoved old.now)
    (λ db left. inr (may_be_moved c.in-Some.tables old.now db has c.in-Some.ensures.tables.1 left))
    c.read_room_in.ensures.survives

pub returns-in-Err-clause-survives : goal.returns-in-Err-clause-survives
returns-in-Err-clause-survives g c =
    let old = state g.S.Store c.args.conn.now in
    let has : old.now.schema ≡ schema_of c.in-Some.tables = search rules in
    survives_less old (state g.S.Store c.read_room_in.new.conn) _ (MayBeMoved old.now)
    (λ db left. inr (may_be_moved c.in-Some.tables old.now db has c.in-Some.ensures.tables.1 left))
    c.read_room_in.ensures.survives
