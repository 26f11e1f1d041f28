use Rattle.std.proofs.Common.{arith, refl, ◌∙◌}
use Rattle.std.proofs.lemmas.Result.{on_ok_weaker}
use Rattle.room_tables_schema.proofs.WriteLaws.{commits_more}
use Rattle.room_store_writes.proofs.CommitLaws.{put_commits}
use Rattle.room_tables_schema.specs.FileConnections.{IsClean}
use Rattle.room_store_writes.proofs.terminal_changes.replace.Goals as goal

pub returns-in-Some-clause-ok : goal.returns-in-Some-clause-ok
returns-in-Some-clause-ok g c clean =
    let early : IsClean g.S.Store c.drop_of.new.tx.conn.now = omega
    (arith, c.put_terminal.ensures.writes.survives.clean) in
    let first = c.in_ok-drop_of.ensures.ok early in
    rw c.in-Some.is (on_ok_weaker c.put_terminal.result (λ last. record {
      inside = record {
        was_open = first.inside.was_open;
        is_open = last.inside.is_open;
        now_is = refl;
        committed_is = last.inside.committed_is ∙ first.inside.committed_is;
        mode = last.inside.mode;
      };
      schema = last.schema;
      stands = λ config room h. last.stands _ room (first.stands config room h);
    }) (c.put_terminal.ensures.ok clean))

pub returns-in-None-clause-ok : goal.returns-in-None-clause-ok
returns-in-None-clause-ok g c clean = rw c.in-None.is (c.in_ok-drop_of.ensures.ok clean)

pub returns-in_err-drop_of-clause-commits : goal.returns-in_err-drop_of-clause-commits
returns-in_err-drop_of-clause-commits g c =
    put_commits g.S.Store c.args.tx.now.conn.now c.drop_of.new.tx.conn.now _ _ c.drop_of.result c.drop_of.ensures.ok
    c.drop_of.ensures.writes

pub returns-in-None-clause-commits : goal.returns-in-None-clause-commits
returns-in-None-clause-commits g c =
    put_commits g.S.Store c.args.tx.now.conn.now c.drop_of.new.tx.conn.now _ _ c.drop_of.result c.drop_of.ensures.ok
    c.drop_of.ensures.writes

pub returns-in-Some-clause-commits : goal.returns-in-Some-clause-commits
returns-in-Some-clause-commits g c =
    commits_more (put_commits g.S.Store c.args.tx.now.conn.now c.drop_of.new.tx.conn.now _ _ c.drop_of.result
    c.drop_of.ensures.ok c.drop_of.ensures.writes)
    (put_commits g.S.Store c.drop_of.new.tx.conn.now c.put_terminal.new.tx.conn.now _ _ c.put_terminal.result
    c.put_terminal.ensures.ok c.put_terminal.ensures.writes)
