use Rattle.std.proofs.Common.{arith, subst, ◌∙◌}
use Rattle.sqlite.specs.Held.{state}
use Rattle.room_tables_schema.proofs.WriteLaws.{commits_more}
use Rattle.room_tables.proofs.RoomReads.{kept}
use Rattle.room_tables.specs.RoomsInTables.{Stands}
use Rattle.room_store_writes.proofs.TransactionReads.{reads_commit}
use Rattle.room_store_writes.specs.NewRoom.{put_all}
use Rattle.dispatch_room_tasks.proofs.PutRows.{still_in_order}
use Rattle.room_tables_schema.specs.FileConnections.{IsClean}
use Rattle.dispatch_room_tasks.proofs.replaced_terminals.replace_inside.Goals as goal

pub returns-clause-ok : goal.returns-clause-ok
returns-clause-ok g c clean =
    let old = state g.S.Store c.args.tx.now.conn.now in
    let new = state g.S.Store c.set_terminals.new.tx.conn.now in
    let early : IsClean g.S.Store c.find_others.new.tx.conn.now = omega
    (arith, c.set_terminals.ensures.commits.survives.clean) in
    let others = c.in_ok-others.others.items in
    let listed = c.args.listed.now in (
      c.in_ok-set_terminals.ensures.inside,
      λ config room h.
          let found = c.in_ok-others.ensures.ok early config room h in
          let same = still_in_order others c.in_ok-others.ensures.keyed ∙ found.1 in (
            found.0,
            subst (λ ts. Stands new.now.trees (record config { terminals = put_all ts listed }) room) same
                (rw c.as_slice.ensures.value at (c.in_ok-set_terminals.ensures.stands clean config room
                (kept _ _ (c.in_ok-others.ensures.reads.ok early) config room h))),
          ),
    )

pub returns-in_err-others-clause-commits : goal.returns-in_err-others-clause-commits
returns-in_err-others-clause-commits g c = reads_commit c.find_others.result c.find_others.ensures.reads

pub returns-in_err-set_terminals-clause-commits : goal.returns-in_err-set_terminals-clause-commits
returns-in_err-set_terminals-clause-commits g c =
    commits_more (reads_commit c.find_others.result c.find_others.ensures.reads) c.set_terminals.ensures.commits

pub returns-clause-commits : goal.returns-clause-commits
returns-clause-commits g c =
    commits_more (reads_commit c.find_others.result c.find_others.ensures.reads) c.set_terminals.ensures.commits
