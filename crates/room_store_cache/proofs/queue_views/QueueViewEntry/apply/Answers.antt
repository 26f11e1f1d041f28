use Rattle.std.proofs.Common.{◌∙◌}
use Rattle.std.proofs.lemmas.Result.{on_ok_weaker}
use Rattle.room_types.specs.Keys.{incident_key, numbered_cmp, pair_cmp, report_key}
use Rattle.room_types.specs.KeyLemmas.{numbered_total, pairs_total}
use Rattle.room_store_cache.specs.QueueViews.{is_own_exception, is_waiting}
use Rattle.room_store_cache.proofs.KeptLaws.{pass_put}
use Rattle.room_store_cache.proofs.queue_views.QueueViewEntry.apply.Goals as goal

pub returns-in-PutIncident-clause-so : goal.returns-in-PutIncident-clause-so
returns-in-PutIncident-clause-so c =
    let x = c.args.self.now in
    on_ok_weaker c.put_if.result (λ kept room in_order known. rw c.in-PutIncident.is (record {
      incidents =
          kept
          ∙ pass_put pair_cmp incident_key pairs_total (is_waiting x.division) x.incidents room.incidents
          c.in-PutIncident.incident _ c.is_waiting-is_shown.ensures in_order.incidents known.incidents;
      exceptions = known.exceptions;
    })) c.put_if.ensures.put

pub returns-in-PutReport-clause-so : goal.returns-in-PutReport-clause-so
returns-in-PutReport-clause-so c =
    let x = c.args.self.now in
    on_ok_weaker c.put_if-in-PutReport.result (λ kept room in_order known. rw c.in-PutReport.is (record {
      incidents = known.incidents;
      exceptions =
          kept
          ∙ pass_put numbered_cmp report_key numbered_total (is_own_exception x.division) x.exceptions room.reports
          c.in-PutReport.report _ c.is_own_exception-is_shown.ensures in_order.reports known.exceptions;
    })) c.put_if-in-PutReport.ensures.put
