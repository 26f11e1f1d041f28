use Rattle.std.proofs.Common.{arith}
use Rattle.sqlite.specs.Held.{state}
use Rattle.sqlite.specs.State.{HasCleanDisk}
use Rattle.room_tables_schema.proofs.WriteLaws.{commits_more, write_commits}
use Rattle.room_store_writes.proofs.CommitLaws.{ok_then}
use Rattle.room_store_file.proofs.TakeLaws.{is_moved, renewed_on}
use Rattle.room_store_file.proofs.room_in_tables.migrate_tables.Goals as goal

pub returns-clause-moved : goal.returns-clause-moved
returns-clause-moved g c clean =
    let old = state g.S.Store c.args.tx.now.conn.now in
    let mid = state g.S.Store c.make_last.new.tx.conn.now in
    let early : HasCleanDisk mid = omega (arith, c.update_version.ensures.writes.survives.clean) in
    ok_then c.update_version.result _ _ (is_moved old.now.trees mid _ (c.in_ok-make_last.ensures.last early))
    (c.update_version.ensures.ok clean)

pub returns-clause-inside : goal.returns-clause-inside
returns-clause-inside g c =
    renewed_on g.S.Store c.make_last.new.tx.conn.now c.update_version.new.tx.conn.now c.update_version.result
    c.update_version.ensures.ok

pub returns-clause-commits : goal.returns-clause-commits
returns-clause-commits g c =
    commits_more c.make_last.ensures.commits (write_commits c.update_version.result c.update_version.ensures.writes
    (λ clean. ok_then c.update_version.result _ _ (λ is. is.inside) (c.update_version.ensures.ok clean)))
