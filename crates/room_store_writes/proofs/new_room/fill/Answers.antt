use Rattle.std.proofs.Common.{[], arith, refl}
use Rattle.sqlite_rules.proofs.ViewLemmas.{on_ok_both}
use Rattle.room_tables.specs.RoomsInTables.{Configuration, empty_room}
use Rattle.room_model.specs.Room.{Room}
use Rattle.room_tables_schema.specs.Outcomes.{CommitsNothing}
use Rattle.room_tables_schema.proofs.WriteLaws.{commits_more}
use Rattle.room_store_writes.proofs.CommitLaws.{put_commits}
use Rattle.room_store_writes.proofs.new_room.fill.Given.{Over}
use Rattle.room_store_writes.proofs.new_room.fill.Goals.{After-put_meta}
use Rattle.room_tables_schema.specs.FileConnections.{IsClean}
use Rattle.room_store_writes.proofs.new_room.fill.Goals as goal

-- as the meta row leaves it, well or not
with_meta : (g : Over) (c : After-put_meta g)
    → CommitsNothing g.S.Store c.args.tx.now.conn.now c.put_meta.new.tx.conn.now
with_meta g c =
    commits_more c.make.ensures.commits (put_commits g.S.Store c.make.new.tx.conn.now c.put_meta.new.tx.conn.now _ _
    c.put_meta.result c.put_meta.ensures.ok c.put_meta.ensures.writes)

pub returns-in_err-put_meta-clause-commits : goal.returns-in_err-put_meta-clause-commits
returns-in_err-put_meta-clause-commits g c =
    with_meta g (goal.at.returns-in_err-put_meta-clause-commits g c).After-put_meta

pub returns-in_err-put_areas-clause-commits : goal.returns-in_err-put_areas-clause-commits
returns-in_err-put_areas-clause-commits g c =
    commits_more (with_meta g (goal.at.returns-in_err-put_areas-clause-commits g c).After-put_meta)
    c.put_areas.ensures.commits

pub returns-in_err-put_terminals-clause-commits : goal.returns-in_err-put_terminals-clause-commits
returns-in_err-put_terminals-clause-commits g c =
    commits_more
    (commits_more (with_meta g (goal.at.returns-in_err-put_terminals-clause-commits g c).After-put_meta)
    c.put_areas.ensures.commits) c.put_terminals.ensures.commits

pub returns-clause-commits : goal.returns-clause-commits
returns-clause-commits g c =
    commits_more
    (commits_more
    (commits_more (with_meta g (goal.at.returns-clause-commits g c).After-put_meta) c.put_areas.ensures.commits)
    c.put_terminals.ensures.commits) c.put_divisions.ensures.commits

pub returns-clause-ok : goal.returns-clause-ok
returns-clause-ok g c clean =
    let plan = c.args.plan.now in
    let third : IsClean g.S.Store c.put_terminals.new.tx.conn.now = omega
    (arith, c.put_divisions.ensures.commits.survives.clean) in
    let second : IsClean g.S.Store c.put_areas.new.tx.conn.now = omega
    (arith, c.put_terminals.ensures.commits.survives.clean) in
    let first : IsClean g.S.Store c.put_meta.new.tx.conn.now = omega
    (arith, c.put_areas.ensures.commits.survives.clean) in
    let early : IsClean g.S.Store c.make.new.tx.conn.now = omega
    (arith, c.put_meta.ensures.writes.survives.clean) in
    let config : Configuration = record { zone = plan.zone; terminals = [] } in
    let room : Room = record empty_room { plan = plan.areas } in
    let begun = rw c.zone.ensures at (c.in_ok-put_meta.ensures.begun first (c.in_ok-make.ensures.blank early)) in
    let planned = rw c.areas.ensures at (c.in_ok-put_areas.ensures.stands second config empty_room begun refl) in
    on_ok_both c.put_divisions.result (λ may stands. (
      may.inside clean,
      may.room clean,
      stands _ room (c.in_ok-put_terminals.ensures.stands third config room planned) refl,
    ))
    c.put_divisions.ensures.inside (c.put_divisions.ensures.stands clean)

pub put_areas-requires-clause-inside : goal.put_areas-requires-clause-inside
put_areas-requires-clause-inside g c = record {
  room = λ clean. (c.in_ok-put_meta.ensures.ok clean).schema;
  inside = λ clean. (c.in_ok-put_meta.ensures.ok clean).inside.mode;
}
