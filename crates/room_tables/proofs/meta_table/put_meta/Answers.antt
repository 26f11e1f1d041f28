use Rattle.std.proofs.Common.{◌∙◌}
use Rattle.std.proofs.lemmas.Result.{IfOk-weaker}
use Rattle.room_tables_rows.proofs.Starts.{put_meta_makes, put_meta_begins, put_meta_renews}
use Rattle.room_tables.proofs.meta_table.put_meta.Goals as goal

pub returns-clause-ok : goal.returns-clause-ok
returns-clause-ok g c clean =
    IfOk-weaker c.run.result _ _
    (λ _ it. put_meta_makes c.args.zone.now _ _ _ it.room it.inside (rw c.meta_columns.ensures at it.ran))
    (c.run.ensures.ran clean)

pub returns-clause-begun : goal.returns-clause-begun
returns-clause-begun g c clean =
    IfOk-weaker c.run.result _ _
    (λ _ it. put_meta_begins c.args.zone.now _ _ _ it.room it.inside (rw c.meta_columns.ensures at it.ran))
    (c.run.ensures.ran clean)

pub returns-clause-renews : goal.returns-clause-renews
returns-clause-renews g c clean =
    IfOk-weaker c.run.result _ _
    (λ _ it was.
    let renewed = put_meta_renews 1 c.args.zone.now c.args.zone.now _ _ _ it.room (rw c.meta_columns.ensures at it.ran)
    was in
    record {
      inside = it.inside;
      schema = renewed.0.schema_is ∙ it.room;
      only = renewed.0;
      zone = c.args.zone.now;
      was = was;
      is = renewed.1;
    })
    (c.run.ensures.ran clean)

pub returns-clause-why : goal.returns-clause-why
returns-clause-why g c clean = rw c.meta_columns.ensures at (c.run.ensures.why clean)

pub returns-clause-same_reference : goal.returns-clause-same_reference
returns-clause-same_reference g c = c.run.ensures.same_reference

pub returns-clause-writes : goal.returns-clause-writes
returns-clause-writes g c = c.run.ensures.writes
