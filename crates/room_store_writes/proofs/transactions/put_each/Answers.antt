use Rattle.std.proofs.Common.{arith, drop, length, ◌+◌, ◌∙◌, ◌∷◌, ◌≡◌, ◌≤◌}
use Rattle.std.proofs.lemmas.List.{drop_all, drop_more}
use Rattle.sqlite.specs.Held.{state}
use Rattle.sqlite.specs.State.{HasCleanDisk}
use Rattle.room_model.specs.Room.{apply}
use Rattle.room_tables_schema.proofs.WriteLaws.{commits_more}
use Rattle.room_store_writes.proofs.CommitLaws.{nearer, there}
use Rattle.room_store_writes.proofs.transactions.put_each.Goals as goal

pub loop-change-preserved : goal.loop-change-preserved
loop-change-preserved g c =
    let mid = state g.S.Store c.loop-change.tx.conn.now in
    let new = state g.S.Store c.apply.new.tx.conn.now in
    let before = c.loop-change.invariant in
    let changes = c.args.changes.now in
    let at = c.loop-change.change-index in
    let item = c.change-item.result in
    record {
      same = c.apply.ensures.same_reference ∙ before.same;
      commits = commits_more before.commits c.apply.ensures.commits;
      may = record {
        room = λ clean. (c.in_ok-apply.ensures.ok clean).schema;
        inside = λ clean. (c.in_ok-apply.ensures.ok clean).inside.mode;
      };
      stands = λ clean config room h.
          let early : HasCleanDisk mid = omega (arith, c.apply.ensures.commits.survives.clean) in
          let more : drop at changes
          ≡ item ∷ drop (at + 1) changes = rw c.change-item.is (drop_more changes at _ c.loop-change-test.true) in
          nearer (drop at changes) (drop (at + 1) changes) item config mid.now.trees new.now.trees (apply room changes)
          more ((c.in_ok-apply.ensures.ok clean).stands config) (before.stands early config room h);
    }

pub returns-clause-ok : goal.returns-clause-ok
returns-clause-ok g c clean =
    let all = c.loop-change.invariant in
    let changes = c.args.changes.now in
    let at = c.loop-change.change-index in
    let past : length changes ≤ at = omega (arith, c.loop-change-test.false) in
    record {
      inside = all.may.inside clean;
      schema = all.may.room clean;
      stands =
          λ config room h.
          there (drop at changes) config (state g.S.Store c.loop-change.tx.conn.now).now.trees (apply room changes)
          (drop_all at changes past) (all.stands clean config room h);
    }

pub returns-in_err-apply-clause-commits : goal.returns-in_err-apply-clause-commits
returns-in_err-apply-clause-commits g c =
    commits_more c.loop-change.invariant.commits c.apply.ensures.commits
