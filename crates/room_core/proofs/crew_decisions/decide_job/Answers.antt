use Rattle.std.proofs.Common.{Some, ap, refl, subst, sym, ◌∙◌, ◌≡◌}
use Rattle.room_model.proofs.CrewLaws.{job_same}
use Rattle.room_model.specs.CrewJobs.{job_in, job_of, show_job}
use Rattle.room_model.specs.Decisions.{Decides, where_found}
use Rattle.room_model.specs.Queries.{calls_of, incident_of, vehicle_at}
use Rattle.room_model.specs.RoomSlices.{room_of}
use Rattle.room_types.specs.declared.refusal_statuses.Refusal.TheVariants.{NoSuchVehicle}
use Rattle.room_core.proofs.crew_decisions.decide_job.Goals as goal

pub returns-clause-decides : goal.returns-clause-decides
returns-clause-decides c plan r there ordered owned has =
    let v = c.args.vehicle.now in
    let a = c.args.order.now in
    let rows = room_of plan c.args.slice.now.rows in
    let here : job_of v a (incident_of c.args.slice.now.division a.incident rows)
    (calls_of c.args.slice.now.division a.incident rows)
    ≡ job_in r (Some a) v =
    ap (λ d. job_of v a (incident_of d a.incident rows) (calls_of d a.incident rows)) owned
    ∙ ap (λ i. job_of v a i (calls_of a.division a.incident rows)) has.incident
    ∙ ap (job_of v a (incident_of a.division a.incident r)) has.calls in
    let asked : show_job v.callsign r
    ≡ job_in r (Some a) v =
    ap (λ o. where_found (vehicle_at v.callsign r) NoSuchVehicle (job_in r o)) ordered
    ∙ ap (λ o. where_found o NoSuchVehicle (job_in r (Some a))) there in
    subst (λ decided. Decides decided c.job.result) (here ∙ sym asked) (c.job.ensures plan)

pub returns-clause-apart : goal.returns-clause-apart
returns-clause-apart c plan r other there ordered owned has order in_order agree =
    subst (λ decided. Decides decided c.job.result)
    (job_same c.args.vehicle.now.callsign r other order in_order agree)
    (returns-clause-decides c plan r there ordered owned has)
