use Rattle.std.proofs.Common.{ap, not, ◌&&◌, ◌∙◌}
use Rattle.std.specs.Prelude.{filter}
use Rattle.room_types.specs.Codes.{is_active, is_normal}
use Rattle.room_types.specs.Keys.{owns_incident, owns_report}
use Rattle.room_store_cache.proofs.QueueReads.{waiting_rows}
use Rattle.room_store_cache.proofs.queue_views.queue_view_of.Goals as goal

pub returns-clause-queue_view : goal.returns-clause-queue_view
returns-clause-queue_view c room at read =
    let d = c.args.division in
    record {
      incidents = c.in_ok-own_rows.ensures.rows
          ∙ ap (filter (owns_incident d)) read.incidents
          ∙ waiting_rows (owns_incident d) (λ i. is_active i.state) room.incidents;
      exceptions = c.in_ok-own_rows-2.ensures.rows
          ∙ ap (filter (owns_report d)) read.reports
          ∙ waiting_rows (owns_report d) (λ x. not (is_normal x.outcome) && not x.cleared) room.reports;
    }
