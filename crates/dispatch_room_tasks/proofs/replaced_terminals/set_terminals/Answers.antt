use Rattle.std.proofs.Common.{arith}
use Rattle.std.proofs.lemmas.Result.{on_ok_weaker}
use Rattle.room_tables_schema.proofs.WriteLaws.{commits_more}
use Rattle.room_store_writes.proofs.CommitLaws.{put_commits}
use Rattle.room_tables_schema.specs.FileConnections.{IsClean}
use Rattle.dispatch_room_tasks.proofs.replaced_terminals.set_terminals.Goals as goal

pub returns-clause-stands : goal.returns-clause-stands
returns-clause-stands g c clean =
    let second : IsClean g.S.Store c.put_listed.new.tx.conn.now = omega
    (arith, c.put_listed-2.ensures.commits.survives.clean) in
    let first : IsClean g.S.Store c.clear_terminals.new.tx.conn.now = omega
    (arith, second, c.put_listed.ensures.commits.survives.clean) in
    on_ok_weaker c.put_listed-2.result
    (λ put config room h.
    put _ room
    (c.in_ok-put_listed.ensures.stands second _ room ((c.in_ok-clear_terminals.ensures.ok first).stands config room h)))
    (c.put_listed-2.ensures.stands clean)

pub returns-in_err-clear_terminals-clause-commits : goal.returns-in_err-clear_terminals-clause-commits
returns-in_err-clear_terminals-clause-commits g c =
    put_commits _ _ _ _ _ c.clear_terminals.result c.clear_terminals.ensures.ok c.clear_terminals.ensures.writes

pub returns-in_err-put_listed-clause-commits : goal.returns-in_err-put_listed-clause-commits
returns-in_err-put_listed-clause-commits g c =
    commits_more
    (put_commits _ _ _ _ _ c.clear_terminals.result c.clear_terminals.ensures.ok c.clear_terminals.ensures.writes)
    c.put_listed.ensures.commits

pub returns-clause-commits : goal.returns-clause-commits
returns-clause-commits g c =
    commits_more
    (commits_more
    (put_commits _ _ _ _ _ c.clear_terminals.result c.clear_terminals.ensures.ok c.clear_terminals.ensures.writes)
    c.put_listed.ensures.commits)
    c.put_listed-2.ensures.commits
