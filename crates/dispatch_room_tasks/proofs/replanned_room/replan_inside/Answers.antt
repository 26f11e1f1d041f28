use Rattle.std.proofs.Common.{ap, arith, subst, sym, ◌∙◌}
use Rattle.sqlite.specs.Held.{state}
use Rattle.room_model.specs.Room.{apply}
use Rattle.room_tables_schema.proofs.WriteLaws.{commits_more}
use Rattle.room_tables.proofs.RoomReads.{kept}
use Rattle.room_tables.specs.RoomsInTables.{Stands}
use Rattle.room_store_writes.proofs.TransactionReads.{reads_commit}
use Rattle.room_store_writes.specs.Configurations.{config_of}
use Rattle.room_store_writes.specs.NewRoom.{put_all}
use Rattle.dispatch_room_tasks.proofs.PutRows.{still_in_order}
use Rattle.dispatch_room_tasks.specs.ReplacedTerminals.{kept_beside, replaced_by}
use Rattle.dispatch_room_tasks.specs.ReplannedRoom.{additions}
use Rattle.room_tables_schema.specs.FileConnections.{IsClean}
use Rattle.dispatch_room_tasks.proofs.replanned_room.replan_inside.Goals as goal

pub returns-clause-ok : goal.returns-clause-ok
returns-clause-ok g c clean =
    let new = state g.S.Store c.set_terminals.new.tx.conn.now in
    let plan = c.args.file.now.plan in
    let items = c.args.file.now.terminals.items in
    let second : IsClean g.S.Store c.set_plan.new.tx.conn.now = omega
    (arith, c.set_terminals.ensures.commits.survives.clean) in
    let first : IsClean g.S.Store c.find_others.new.tx.conn.now = omega
    (arith, second, c.set_plan.ensures.commits.survives.clean) in
    let others = c.in_ok-others.others.items in (
      c.in_ok-set_terminals.ensures.inside,
      λ config room h planned.
          let found = c.in_ok-others.ensures.ok first config room h in
          let same = still_in_order others c.in_ok-others.ensures.keyed ∙ found.1
          ∙ ap (λ l. kept_beside l config.terminals) c.as_slice-listed.ensures.value in
          let put = c.in_ok-set_terminals.ensures.stands clean _ _
          (c.in_ok-set_plan.ensures.stands second config room
          (kept _ _ (c.in_ok-others.ensures.reads.ok first) config room h)) in (
            sym c.in_default.ensures,
            rw c.as_slice-listed.ensures.value at found.0,
            subst (λ old.
                Stands new.now.trees (config_of plan (replaced_by items config.terminals))
                (record (apply room (additions old plan.areas)) { plan = plan.areas })) (sym planned)
                (subst (λ ts.
                Stands new.now.trees (record { zone = plan.zone; terminals = put_all ts items })
                (record (apply room (additions c.args.plan.now.areas plan.areas)) { plan = plan.areas })) same
                (rw (c.as_slice.ensures.value, c.as_slice-listed.ensures.value) at put)),
          ),
    )

pub returns-in_err-others-clause-commits : goal.returns-in_err-others-clause-commits
returns-in_err-others-clause-commits g c = reads_commit c.find_others.result c.find_others.ensures.reads

pub returns-in_err-set_plan-clause-commits : goal.returns-in_err-set_plan-clause-commits
returns-in_err-set_plan-clause-commits g c =
    commits_more (reads_commit c.find_others.result c.find_others.ensures.reads) c.set_plan.ensures.commits

pub returns-in_err-set_terminals-clause-commits : goal.returns-in_err-set_terminals-clause-commits
returns-in_err-set_terminals-clause-commits g c =
    commits_more
    (commits_more (reads_commit c.find_others.result c.find_others.ensures.reads) c.set_plan.ensures.commits)
    c.set_terminals.ensures.commits

pub returns-clause-commits : goal.returns-clause-commits
returns-clause-commits g c =
    commits_more
    (commits_more (reads_commit c.find_others.result c.find_others.ensures.reads) c.set_plan.ensures.commits)
    c.set_terminals.ensures.commits
