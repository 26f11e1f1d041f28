use Rattle.std.proofs.Common.{ap, eq-eqb, refl, ◌∙◌}
use Rattle.std.proofs.lemmas.Result.{IfOk-weaker}
use Rattle.room_types.specs.declared.asks.Ask.TheVariants.{Incident}
use Rattle.room_model.proofs.WorkingDesk.{calls_read, incident_named}
use Rattle.room_model.specs.CrewJobs.{show_job}
use Rattle.room_model.specs.Queries.{calls_of, incident_of, vehicle_at}
use Rattle.room_tables_schema.proofs.ReadLaws.{ends_any, fails, looked}
use Rattle.room_store.proofs.Unavailable.{failed, machines, says, unsaid}
use Rattle.room_store.specs.EventDecisions.{unless_unavailable}
use Rattle.room_store.proofs.event_decisions.for_order.Goals as goal

pub returns-clause-decided : goal.returns-clause-decided
unfolding vehicle_at
returns-clause-decided g c clean =
    IfOk-weaker (unless_unavailable c.decide_job-decision.result) _ _
    (λ x answered config room h formed known has ordered.
    let d = c.args.order.now.division in
    let n = c.args.order.now.incident in
    let at = c.args.at in
    let selects = c.reads_of-reads.ensures in
    let read = c.in-Ok.ensures.rows clean config room h (Incident n) formed.order known selects in
    let rows = c.in-Ok-working_slice.ensures.rows room (Incident n) at formed.order (rw c.get.ensures read.1.rows)
    selects read.0 in
    let itself = eq-eqb n n refl in
    let decides = c.decide_job-decision.ensures.decides room.plan room has ordered
    c.in-Ok-working_slice.ensures.division (record {
      incident = ap (incident_of d n) rows ∙ incident_named d (Incident n) at room formed n itself;
      calls = ap (calls_of d n) rows ∙ calls_read d (Incident n) at room formed n refl itself;
    }) in
    answered (show_job c.args.vehicle.now.callsign room) decides) (machines c.decide_job-decision.result)

pub returns-clause-known : goal.returns-clause-known
returns-clause-known g c clean =
    says c.decide_job-decision.result _ (λ config room h formed known.
    (c.in-Ok.ensures.rows clean config room h (Incident c.args.order.now.incident) formed.order known
    c.reads_of-reads.ensures).1)

pub returns-clause-reads : goal.returns-clause-reads
returns-clause-reads g c = ends_any (unless_unavailable c.decide_job-decision.result) (looked c.in-Ok.ensures.reads)

pub returns-in-Err-clause-decided : goal.returns-in-Err-clause-decided
returns-in-Err-clause-decided g c clean = unsaid c.in-Err.fault c.refusal_of.ensures _

pub returns-in-Err-clause-known : goal.returns-in-Err-clause-known
returns-in-Err-clause-known g c clean = unsaid c.in-Err.fault c.refusal_of.ensures _

pub returns-in-Err-clause-reads : goal.returns-in-Err-clause-reads
returns-in-Err-clause-reads g c = fails (failed c.in-Err.fault c.refusal_of.ensures) c.in-Err.ensures.reads

pub returns-in-Err-working_slice-clause-decided : goal.returns-in-Err-working_slice-clause-decided
returns-in-Err-working_slice-clause-decided g c clean =
    unsaid c.in-Err-working_slice.fault c.refusal_of-in-Err-working_slice.ensures _

pub returns-in-Err-working_slice-clause-known : goal.returns-in-Err-working_slice-clause-known
returns-in-Err-working_slice-clause-known g c clean =
    unsaid c.in-Err-working_slice.fault c.refusal_of-in-Err-working_slice.ensures _

pub returns-in-Err-working_slice-clause-reads : goal.returns-in-Err-working_slice-clause-reads
returns-in-Err-working_slice-clause-reads g c = ends_any _ (looked c.in-Ok.ensures.reads)
