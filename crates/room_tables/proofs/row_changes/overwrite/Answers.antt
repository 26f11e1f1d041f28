-- The row was written over, or it was put.
use Rattle.std.proofs.Common.{◌∙◌}
use Rattle.std.proofs.lemmas.Result.{IfOk-weaker}
use Rattle.room_tables_schema.proofs.WriteLaws.{commits_more, write_commits}
use Rattle.room_tables.proofs.RoomReads.{was_clean}
use Rattle.room_tables.proofs.Made.{makes, overwrites, overwritten, put_then}
use Rattle.room_tables_schema.specs.FileConnections.{IsClean}
use Rattle.room_tables.proofs.row_changes.overwrite.Goals as goal

pub run-requires : goal.run-requires
run-requires g c =
    let made = c.requires.statements in
    let over = λ (clean : IsClean g.S.Store c.write.new.tx.conn.now).
    let early = was_clean c.write.ensures.writes.survives clean in
    overwrites _ _ _ _ _ (c.requires.inside.room early) (c.in_ok-write.ensures.ok clean)
    (c.in_ok-write.ensures.ran clean) c.args.put.now made.0 made.1 in
    record { inside = record { room = λ clean. (over clean).schema; inside = λ clean. (over clean).inside.mode } }

pub returns-then-branch-eq0-clause-ok : goal.returns-then-branch-eq0-clause-ok
returns-then-branch-eq0-clause-ok g c clean =
    let wrote = was_clean c.run.ensures.writes.survives clean in
    let early = was_clean c.write.ensures.writes.survives wrote in
    IfOk-weaker c.run.result _ _
    (λ _ it made is.
    let over = overwrites _ _ _ _ _ (c.requires.inside.room early) (c.in_ok-write.ensures.ok wrote)
    (c.in_ok-write.ensures.ran wrote) c.args.put.now made is in
    put_then _ _ _ c.in_ok-write.field-0 made c.if-branch-eq0.true over (makes it made is.1)) (c.run.ensures.ran clean)

pub returns-clause-ok : goal.returns-clause-ok
returns-clause-ok g c clean made is =
    let early = was_clean c.write.ensures.writes.survives clean in
    overwritten _ _ c.in_ok-write.field-0 made c.if-branch-eq0.false
    (overwrites _ _ _ _ _ (c.requires.inside.room early) (c.in_ok-write.ensures.ok clean)
    (c.in_ok-write.ensures.ran clean) c.args.put.now made is)

pub returns-then-branch-eq0-clause-commits : goal.returns-then-branch-eq0-clause-commits
returns-then-branch-eq0-clause-commits g c =
    commits_more (write_commits c.write.result c.write.ensures.writes c.write.ensures.ok)
    (write_commits c.run.result c.run.ensures.writes
    (λ clean. IfOk-weaker c.run.result _ _ (λ _ it. it.inside) (c.run.ensures.ran clean)))

pub returns-clause-commits : goal.returns-clause-commits
returns-clause-commits g c = write_commits c.write.result c.write.ensures.writes c.write.ensures.ok

pub returns-in_err-write-clause-commits : goal.returns-in_err-write-clause-commits
returns-in_err-write-clause-commits g c = write_commits c.write.result c.write.ensures.writes c.write.ensures.ok

pub returns-then-branch-eq0-clause-same_reference : goal.returns-then-branch-eq0-clause-same_reference
returns-then-branch-eq0-clause-same_reference g c = c.run.ensures.same_reference ∙ c.write.ensures.same_reference

pub returns-clause-same_reference : goal.returns-clause-same_reference
returns-clause-same_reference g c = c.write.ensures.same_reference

pub returns-in_err-write-clause-same_reference : goal.returns-in_err-write-clause-same_reference
returns-in_err-write-clause-same_reference g c = c.write.ensures.same_reference
