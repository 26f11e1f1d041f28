use Rattle.std.proofs.lemmas.Result.{IfOk-weaker}
use Rattle.room_tables_rows.proofs.Starts.{put_area_makes}
use Rattle.room_tables.proofs.area_table.put_area.Goals as goal

pub returns-clause-ok : goal.returns-clause-ok
returns-clause-ok g c clean =
    IfOk-weaker c.run.result _ _
    (λ _ it. put_area_makes c.args.at c.args.area.now _ _ _ it.room it.inside (rw c.area_columns.ensures at it.ran))
    (c.run.ensures.ran clean)

pub returns-clause-why : goal.returns-clause-why
returns-clause-why g c clean = rw c.area_columns.ensures at (c.run.ensures.why clean)

pub returns-clause-same_reference : goal.returns-clause-same_reference
returns-clause-same_reference g c = c.run.ensures.same_reference

pub returns-clause-writes : goal.returns-clause-writes
returns-clause-writes g c = c.run.ensures.writes
