use Rattle.std.proofs.Common.{List, [], eqb-true, rules, subst, sym, ◌∙◌, ◌≡◌}
use Rattle.std.proofs.lemmas.List.{nil_from_length}
use Rattle.std.proofs.lemmas.Result.{on_ok_weaker}
use Rattle.sqlite_trees.specs.Tree.{Trees}
use Rattle.room_types.specs.declared.changes.Change.{Change}
use Rattle.room_model.specs.Room.{Room, apply}
use Rattle.room_tables.specs.RoomsInTables.{Configuration, Stands}
use Rattle.room_store_writes.proofs.CommitLaws.{IsWhole, is_whole, unchanged_survives}
use Rattle.room_store_writes.proofs.transactions.write.Given.{Over}
use Rattle.room_store_writes.proofs.transactions.write.Goals.{After-conn-1, Then-is_empty}
use Rattle.room_store_writes.proofs.transactions.write.Goals as goal

-- all these changes are made
abbrev Made : List Change → Trees → Trees → Type 0
Made changes from db =
    (config : Configuration) (room : Room) → Stands from config room → Stands db config (apply room changes)

whole : (g : Over) (c : After-conn-1 g)
    → IsWhole g.S.Store c.args.conn.now c.conn-1.given.0 c.end.result (Made c.args.changes.now)
whole g c =
    let done = c.put_each-done in
    let same : c.end.new.tx.0 ≡ c.conn-1.given.0 = search rules in
    subst (λ end. IsWhole g.S.Store c.args.conn.now end c.end.result (Made c.args.changes.now)) same
    (is_whole g.S.Store c.args.conn.now c.transaction-tx.result.conn.now done.new.tx.conn.now c.end.new.tx.0 done.result
    c.end.result (Made c.args.changes.now) c.transaction-tx.ensures.begun
    (λ clean _. sym (c.requires.settled clean).committed) done.ensures.commits
    (λ clean. on_ok_weaker done.result (λ made. (made.schema, made.stands)) (done.ensures.ok clean))
    c.end.ensures.well c.end.ensures.ok c.end.ensures.err c.end.ensures.survives)

pub returns-clause-survives : goal.returns-clause-survives
returns-clause-survives g c = (whole g c).survives

pub returns-clause-ok : goal.returns-clause-ok
returns-clause-ok g c clean =
    on_ok_weaker c.end.result
    (λ all. record { was_open = (c.requires.settled all.0).is_open; settled = all.1; schema = all.2; stands = all.3 })
    ((whole g c).ok clean)

pub returns-clause-err : goal.returns-clause-err
returns-clause-err g c = (whole g c).err

pub end-requires : goal.end-requires
end-requires g c clean = on_ok_weaker c.put_each-done.result (λ made. made.inside) (c.put_each-done.ensures.ok clean)

no_changes : (g : Over) (c : Then-is_empty g) → c.args.changes.now ≡ []
no_changes g c = nil_from_length c.args.changes.now (eqb-true _ _ (sym c.is_empty.ensures ∙ c.if-is_empty.true))

pub returns-then-is_empty-clause-ok : goal.returns-then-is_empty-clause-ok
returns-then-is_empty-clause-ok g c clean =
    let settled = c.requires.settled clean in
    record {
      was_open = settled.is_open;
      settled = settled;
      schema = c.requires.room clean;
      stands = λ config room h. rw (no_changes g c) h;
    }

pub returns-then-is_empty-clause-survives : goal.returns-then-is_empty-clause-survives
returns-then-is_empty-clause-survives g c = unchanged_survives g.S.Store c.args.conn.now _
