use Rattle.std.proofs.Common.{ap, arith, refl, ◌∙◌}
use Rattle.std.proofs.lemmas.Result.{on_ok_weaker}
use Rattle.std.specs.Prelude.{OnOk}
use Rattle.sqlite.specs.Held.{state}
use Rattle.room_model.specs.Room.{Room, apply}
use Rattle.room_tables_schema.proofs.WriteLaws.{commits_more}
use Rattle.room_store_writes.proofs.CommitLaws.{put_commits}
use Rattle.room_tables.specs.RoomsInTables.{Configuration, Stands}
use Rattle.dispatch_room_tasks.specs.ReplannedRoom.{additions}
use Rattle.room_tables_schema.specs.FileConnections.{IsClean}
use Rattle.dispatch_room_tasks.proofs.replanned_room.set_plan.Goals as goal

pub returns-clause-stands : goal.returns-clause-stands
returns-clause-stands g c clean =
    let cleared : IsClean g.S.Store c.clear_areas.new.tx.conn.now = omega
    (arith, c.put_areas.ensures.commits.survives.clean) in
    let put : IsClean g.S.Store c.put_each.new.tx.conn.now = omega
    (arith, cleared, c.clear_areas.ensures.writes.survives.clean) in
    let named : IsClean g.S.Store c.put_meta.new.tx.conn.now = omega
    (arith, put, c.put_each.ensures.commits.survives.clean) in
    let old = state g.S.Store c.args.tx.now.conn.now in
    let new = state g.S.Store c.put_areas.new.tx.conn.now in
    let added = c.as_slice.ensures.value ∙ c.in_ok-added.ensures
    ∙ ap (additions c.args.old.now.areas) c.areas.ensures in
    let stand : OnOk c.put_areas.result
    ((config : Configuration) (room : Room) → Stands old.now.trees config room
    → Stands new.now.trees (record config { zone = c.zone.result.now })
    (record (apply room c.as_slice.result.now) { plan = c.areas-2.result.now })) =
    on_ok_weaker c.put_areas.result
    (λ stands config room h.
    stands _ _
    ((c.in_ok-clear_areas.ensures.ok cleared).stands _ _
    ((c.in_ok-put_each.ensures.ok put).stands _ room ((c.in_ok-put_meta.ensures.ok named).stands config room h))) refl)
    (c.put_areas.ensures.stands clean) in
    rw (c.zone.ensures, added, c.areas-2.ensures) at stand

pub returns-in_err-put_meta-clause-commits : goal.returns-in_err-put_meta-clause-commits
returns-in_err-put_meta-clause-commits g c =
    put_commits _ _ _ _ _ c.put_meta.result c.put_meta.ensures.ok c.put_meta.ensures.writes

pub returns-in_err-put_each-clause-commits : goal.returns-in_err-put_each-clause-commits
returns-in_err-put_each-clause-commits g c =
    commits_more (put_commits _ _ _ _ _ c.put_meta.result c.put_meta.ensures.ok c.put_meta.ensures.writes)
    c.put_each.ensures.commits

pub returns-in_err-clear_areas-clause-commits : goal.returns-in_err-clear_areas-clause-commits
returns-in_err-clear_areas-clause-commits g c =
    commits_more
    (commits_more (put_commits _ _ _ _ _ c.put_meta.result c.put_meta.ensures.ok c.put_meta.ensures.writes)
    c.put_each.ensures.commits)
    (put_commits _ _ _ _ _ c.clear_areas.result c.clear_areas.ensures.ok c.clear_areas.ensures.writes)

pub returns-clause-commits : goal.returns-clause-commits
returns-clause-commits g c =
    commits_more
    (commits_more
    (commits_more (put_commits _ _ _ _ _ c.put_meta.result c.put_meta.ensures.ok c.put_meta.ensures.writes)
    c.put_each.ensures.commits)
    (put_commits _ _ _ _ _ c.clear_areas.result c.clear_areas.ensures.ok c.clear_areas.ensures.writes))
    c.put_areas.ensures.commits
