-- The row was inserted, or it was put.
use Rattle.std.proofs.Common.{Ok, ap, ◌∙◌}
use Rattle.std.proofs.lemmas.Result.{IfOk-weaker}
use Rattle.sqlite.specs.Effect.{Database}
use Rattle.room_tables_schema.proofs.WriteLaws.{commits_more, write_commits}
use Rattle.room_tables.proofs.RoomReads.{was_clean}
use Rattle.room_tables.proofs.Made.{inserted, makes, put_unless}
use Rattle.room_tables.proofs.row_changes.insert_or_put.Goals as goal

pub run-requires : goal.run-requires
run-requires g c = record {
  inside = record {
    room = λ clean.
        let early = was_clean c.insert.ensures.writes.survives clean in
        let same = c.in_ok-insert.ensures.refused clean (ap Ok c.if-branch.false) in
        ap (λ (d : Database). d.schema) same.0.now_is ∙ c.requires.inside.room early;
    inside = λ clean. (c.in_ok-insert.ensures.ok clean).mode;
  };
}

pub returns-then-branch-clause-ok : goal.returns-then-branch-clause-ok
returns-then-branch-clause-ok g c clean made is =
    let early = was_clean c.insert.ensures.writes.survives clean in
    let it = c.in_ok-insert.ensures.made clean (ap Ok c.if-branch.true) in
    inserted _ _ _ _ it.0 (c.requires.inside.room early) (c.in_ok-insert.ensures.ok clean) it.1 c.args.put.now made is

pub returns-clause-ok : goal.returns-clause-ok
returns-clause-ok g c clean =
    let refused = was_clean c.run.ensures.writes.survives clean in
    let early = was_clean c.insert.ensures.writes.survives refused in
    let same = c.in_ok-insert.ensures.refused refused (ap Ok c.if-branch.false) in
    IfOk-weaker c.run.result _ _
    (λ _ it made is.
    put_unless _ _ _ made (c.requires.inside.room early) (c.in_ok-insert.ensures.ok refused) same (makes it made is.1))
    (c.run.ensures.ran clean)

pub returns-then-branch-clause-commits : goal.returns-then-branch-clause-commits
returns-then-branch-clause-commits g c = write_commits c.insert.result c.insert.ensures.writes c.insert.ensures.ok

pub returns-clause-commits : goal.returns-clause-commits
returns-clause-commits g c =
    commits_more (write_commits c.insert.result c.insert.ensures.writes c.insert.ensures.ok)
    (write_commits c.run.result c.run.ensures.writes
    (λ clean. IfOk-weaker c.run.result _ _ (λ _ it. it.inside) (c.run.ensures.ran clean)))

pub returns-in_err-insert-clause-commits : goal.returns-in_err-insert-clause-commits
returns-in_err-insert-clause-commits g c = write_commits c.insert.result c.insert.ensures.writes c.insert.ensures.ok

pub returns-then-branch-clause-same_reference : goal.returns-then-branch-clause-same_reference
returns-then-branch-clause-same_reference g c = c.insert.ensures.same_reference

pub returns-clause-same_reference : goal.returns-clause-same_reference
returns-clause-same_reference g c = c.run.ensures.same_reference ∙ c.insert.ensures.same_reference

pub returns-in_err-insert-clause-same_reference : goal.returns-in_err-insert-clause-same_reference
returns-in_err-insert-clause-same_reference g c = c.insert.ensures.same_reference
