use Rattle.std.proofs.Common.{None, Some, ap, sym, ◌∙◌, ◌≡◌}
use Rattle.std.proofs.lemmas.Result.{IfOk-weaker}
use Rattle.room_types.specs.KeyedRows.{row_at}
use Rattle.room_types.specs.Keys.{assignment_key, callsign_cmp}
use Rattle.room_model.proofs.JobLaws.{job_of_none}
use Rattle.room_model.specs.Queries.{assignment_at}
use Rattle.room_store_cache.specs.declared.fleets.FleetRows.{FleetRows}
use Rattle.room_store.proofs.Unavailable.{all_known, filled, still_known}
use Rattle.room_store.specs.EventDecisions.{unless_unavailable}
use Rattle.room_store.proofs.event_decisions.for_job.Goals as goal

pub returns-in-Some-clause-decided : goal.returns-in-Some-clause-decided
unfolding assignment_at
returns-in-Some-clause-decided g c clean =
    IfOk-weaker (unless_unavailable c.for_order.result) _ _ (λ x answered config room h formed fleet is has.
    let k = c.args.vehicle.now.callsign in
    let there : assignment_at k room
    ≡ Some c.in-Some.order =
    ap (λ xs. row_at callsign_cmp assignment_key xs k)
    (sym (ap (λ (r : FleetRows). r.assignments) c.get.ensures ∙ fleet.rows.assignments))
    ∙ sym (c.copied-assigned.ensures ∙ c.get-2.ensures) ∙ c.in-Some.is in
    answered config room h formed (all_known fleet is) has there) (c.for_order.ensures.decided clean)

pub returns-in-Some-clause-cache : goal.returns-in-Some-clause-cache
returns-in-Some-clause-cache g c clean =
    IfOk-weaker (unless_unavailable c.for_order.result) _ _ (λ x known config room h formed fleet is.
    still_known fleet (known config room h formed (all_known fleet is)) c.for_order.ensures.fleet)
    (c.for_order.ensures.known clean)

pub returns-in-None-clause-decided : goal.returns-in-None-clause-decided
unfolding assignment_at
returns-in-None-clause-decided g c clean =
    IfOk-weaker (unless_unavailable c.by_rows.result) _ _ (λ x answered config room h formed fleet is has.
    let k = c.args.vehicle.now.callsign in
    let none : assignment_at k room
    ≡ None =
    ap (λ xs. row_at callsign_cmp assignment_key xs k)
    (sym (ap (λ (r : FleetRows). r.assignments) c.get.ensures ∙ fleet.rows.assignments))
    ∙ sym (c.copied-assigned.ensures ∙ c.get-2.ensures) ∙ c.in-None.is in
    answered config room h formed fleet has tt ∙ sym (job_of_none k room none)) (c.by_rows.ensures.decided clean)

pub returns-in-None-clause-cache : goal.returns-in-None-clause-cache
returns-in-None-clause-cache g c clean =
    IfOk-weaker (unless_unavailable c.by_rows.result) _ _ (λ x known config room h formed fleet is.
    filled _ (known config room h fleet) is) (c.by_rows.ensures.known clean)

pub returns-in-Some-clause-reads : goal.returns-in-Some-clause-reads
returns-in-Some-clause-reads g c = c.for_order.ensures.reads

pub returns-in-None-clause-reads : goal.returns-in-None-clause-reads
returns-in-None-clause-reads g c = c.by_rows.ensures.reads
