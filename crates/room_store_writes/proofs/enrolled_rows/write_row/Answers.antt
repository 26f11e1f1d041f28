use Rattle.std.proofs.Common.{rules, subst, sym, ◌≡◌}
use Rattle.std.proofs.lemmas.Result.{on_ok_weaker}
use Rattle.sqlite_trees.specs.Tree.{Trees}
use Rattle.room_types.specs.declared.fleet.FleetRow.{FleetRow}
use Rattle.room_types.specs.declared.fleet.RowFate.TheVariants.{Added}
use Rattle.room_model.specs.Room.{Room}
use Rattle.room_tables.specs.RoomsInTables.{Configuration, Stands}
use Rattle.room_store_writes.specs.EnrolledRows.{StandsAfter}
use Rattle.room_store_writes.proofs.CommitLaws.{IsWhole, is_whole}
use Rattle.room_store_writes.proofs.enrolled_rows.write_row.Given.{Over}
use Rattle.room_store_writes.proofs.enrolled_rows.write_row.Goals.{After-conn-1}
use Rattle.room_store_writes.proofs.enrolled_rows.write_row.Goals as goal

-- the row is there
abbrev Made : FleetRow → Trees → Trees → Type 0
Made row from db =
    (config : Configuration) (room : Room) → Stands from config room → StandsAfter Added row config room db

whole : (g : Over) (c : After-conn-1 g)
    → IsWhole g.S.Store c.args.conn.now c.conn-1.given.0 c.end.result (Made c.args.row.now)
whole g c =
    let done = c.put_row-done in
    let same : c.end.new.tx.0 ≡ c.conn-1.given.0 = search rules in
    subst (λ end. IsWhole g.S.Store c.args.conn.now end c.end.result (Made c.args.row.now)) same
    (is_whole g.S.Store c.args.conn.now c.transaction-tx.result.conn.now done.new.tx.conn.now c.end.new.tx.0 done.result
    c.end.result (Made c.args.row.now) c.transaction-tx.ensures.begun
    (λ clean _. sym (c.requires.settled clean).committed) done.ensures.commits
    (λ clean. on_ok_weaker done.result (λ made. (made.schema, made.stands)) (done.ensures.ok clean))
    c.end.ensures.well c.end.ensures.ok c.end.ensures.err c.end.ensures.survives)

pub returns-clause-survives : goal.returns-clause-survives
returns-clause-survives g c = (whole g c).survives

pub returns-clause-ok : goal.returns-clause-ok
returns-clause-ok g c clean =
    on_ok_weaker c.end.result
    (λ all. record { was_open = (c.requires.settled all.0).is_open; settled = all.1; schema = all.2; stands = all.3 })
    ((whole g c).ok clean)

pub returns-clause-err : goal.returns-clause-err
returns-clause-err g c = (whole g c).err

pub end-requires : goal.end-requires
end-requires g c clean = on_ok_weaker c.put_row-done.result (λ made. made.inside.mode) (c.put_row-done.ensures.ok clean)
