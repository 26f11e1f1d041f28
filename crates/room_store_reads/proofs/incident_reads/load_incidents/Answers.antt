use Rattle.std.proofs.Common.{pos, refl, rules, sym, FitsSigned, w64, ◌∙◌}
use Rattle.std.proofs.lemmas.Int.{to_z-of_z}
use Rattle.std.proofs.lemmas.Result.{IfOk-weaker}
use Rattle.std.specs.Prelude.{false, int_le, int_lt, ◌==◌}
use Rattle.room_types.specs.Codes.{is_active}
use Rattle.room_tables_schema.proofs.ReadLaws.{begins, ends_any, succeeds}
use Rattle.room_store_cache.proofs.Filters.{filter_as, filter_owned}
use Rattle.room_store_reads.proofs.ReadFilters.{and_swapped, and_turned, filter_never, filter_none}
use Rattle.room_store_reads.proofs.Selected.{one_of_two}
use Rattle.room_store_reads.proofs.incident_reads.load_incidents.Goals as goal

pub returns-in-Nothing-clause-rows : goal.returns-in-Nothing-clause-rows
returns-in-Nothing-clause-rows g c clean config room h in_order are =
    rw c.in-Nothing.is
    (c.new.ensures ∙ sym (filter_never (λ i. i.division == c.args.division) (λ i. false) room.incidents (λ i. refl)))

pub returns-in-Nothing-clause-reads : goal.returns-in-Nothing-clause-reads
returns-in-Nothing-clause-reads g c = succeeds (begins c.requires.open)

pub returns-in-Some-clause-rows : goal.returns-in-Some-clause-rows
returns-in-Some-clause-rows g c clean =
    IfOk-weaker c.own_rows.result _ _ (λ x own config room h in_order are.
    let kept = rw c.in-Some.is at c.get.ensures.so room are.queue_views in
    let incidents = rw kept.0 at kept.1.incidents in
    rw c.in-Active.is
    (rw incidents at own ∙ filter_owned (λ i. i.division == c.args.division) (λ i. is_active i.state) room.incidents))
    c.own_rows.ensures.rows

pub returns-in-Some-clause-reads : goal.returns-in-Some-clause-reads
returns-in-Some-clause-reads g c = ends_any c.own_rows.result (begins c.requires.open)

pub returns-in-None-clause-rows : goal.returns-in-None-clause-rows
returns-in-None-clause-rows g c clean =
    IfOk-weaker c.active_incidents.result _ _ (λ x found config room h in_order are.
    rw c.in-Active.is (found config room h
    ∙ filter_as _ _ room.incidents (λ i. and_swapped (is_active i.state) (i.division == c.args.division))))
    (c.active_incidents.ensures.rows clean)

pub returns-in-Opened-clause-rows : goal.returns-in-Opened-clause-rows
returns-in-Opened-clause-rows g c clean =
    let from = c.in-Opened.from in
    let to = c.in-Opened.to in
    let from_fits : FitsSigned w64 from = search rules in
    let to_fits : FitsSigned w64 to = search rules in
    IfOk-weaker c.incidents_opened.result _ _ (λ x found config room h in_order are.
    rw c.in-Opened.is (found config room h
    ∙ filter_as _ _ room.incidents
    (λ i. and_turned (int_le from (pos i.opened)) (int_lt (pos i.opened) to) (i.division == c.args.division))))
    (rw (to_z-of_z w64 from from_fits, to_z-of_z w64 to to_fits) at c.incidents_opened.ensures.rows clean)

pub returns-in-Near-clause-rows : goal.returns-in-Near-clause-rows
returns-in-Near-clause-rows g c clean =
    IfOk-weaker c.near.result _ _
    (λ x found config room h in_order are. rw c.in-Near.is (found config room h are.recent_incidents))
    (c.near.ensures.rows clean)

pub returns-in-One-clause-rows : goal.returns-in-One-clause-rows
returns-in-One-clause-rows g c clean =
    IfOk-weaker c.load_part.result _ _
    (λ x found config room h in_order are. rw c.in-One.is (found config room h are in_order.incidents))
    (c.load_part.ensures.rows clean)

pub returns-in-Two-clause-rows : goal.returns-in-Two-clause-rows
returns-in-Two-clause-rows g c clean =
    IfOk-weaker c.load_parts.result _ _ (λ x found config room h in_order are.
    rw c.in-Two.is
    (found config room h (λ i. false) are in_order.incidents (c.new-none.ensures ∙ sym (filter_none room.incidents))
    ∙ filter_as _ _ room.incidents
    (λ i. one_of_two (i.division == c.args.division) (c.in-Two.number == i.number) (c.in-Two.into == i.number))))
    (c.load_parts.ensures.rows clean)
