use Rattle.std.proofs.Common.{ap, refl, sym, ◌&&◌, ◌∙◌, not}
use Rattle.std.proofs.lemmas.Result.{IfOk-weaker}
use Rattle.std.specs.Prelude.{false}
use Rattle.room_types.specs.Codes.{is_normal}
use Rattle.room_types.specs.Keys.{owns_report}
use Rattle.room_tables_schema.proofs.ReadLaws.{begins, ends_any, succeeds}
use Rattle.room_store_cache.proofs.Filters.{filter_as, filter_owned}
use Rattle.room_store_reads.proofs.ReadFilters.{and_swapped, filter_never, filter_none, numbered_is}
use Rattle.room_store_reads.proofs.Selected.{exceptional}
use Rattle.room_store_reads.proofs.working_rows.load_reports.Goals as goal

pub returns-in-Nothing-clause-rows : goal.returns-in-Nothing-clause-rows
returns-in-Nothing-clause-rows g c clean config room h in_order are =
    rw c.in-Nothing.is
    (c.new.ensures ∙ sym (filter_never (owns_report c.args.division) (λ y. false) room.reports (λ y. refl)))

pub returns-in-Nothing-clause-reads : goal.returns-in-Nothing-clause-reads
returns-in-Nothing-clause-reads g c = succeeds (begins c.requires.open)

pub returns-in-Some-clause-rows : goal.returns-in-Some-clause-rows
returns-in-Some-clause-rows g c clean =
    IfOk-weaker c.own_rows.result _ _ (λ x own config room h in_order are.
    let kept = rw c.in-Some.is at c.get.ensures.so room are.queue_views in
    let exceptions = rw kept.0 at kept.1.exceptions in
    rw c.in-Uncleared.is (rw exceptions at own
    ∙ filter_owned (owns_report c.args.division) (λ y. not (is_normal y.outcome) && not y.cleared) room.reports))
    c.own_rows.ensures.rows

pub returns-in-Some-clause-reads : goal.returns-in-Some-clause-reads
returns-in-Some-clause-reads g c = ends_any c.own_rows.result (begins c.requires.open)

pub returns-in-None-clause-rows : goal.returns-in-None-clause-rows
returns-in-None-clause-rows g c clean =
    IfOk-weaker c.load_parts.result _ _ (λ x found config room h in_order are.
    rw c.in-Uncleared.is (found config room h (λ y. false) are in_order.reports
    (c.new-none.ensures ∙ sym (filter_none room.reports))
    ∙ filter_as _ _ room.reports (λ y. exceptional c.args.division y))) (c.load_parts.ensures.rows clean)

pub returns-in-One-clause-rows : goal.returns-in-One-clause-rows
returns-in-One-clause-rows g c clean =
    let n = c.in-One.named in
    IfOk-weaker c.load_one.result _ _ (λ x found config room h in_order are.
    rw c.in-One.is (found config room h in_order.reports
    ∙ filter_as _ _ room.reports
    (λ y. ap (λ b. owns_report c.args.division y && b) (numbered_is n.0 y.callsign n.1 y.number))))
    (c.load_one.ensures.rows clean)

pub returns-in-Of-clause-rows : goal.returns-in-Of-clause-rows
returns-in-Of-clause-rows g c clean =
    IfOk-weaker c.reports_of.result _ _ (λ x found config room h in_order are.
    rw c.in-Of.is (found config room h
    ∙ filter_as _ _ room.reports (λ y. and_swapped _ (owns_report c.args.division y))))
    (c.reports_of.ensures.rows clean)
