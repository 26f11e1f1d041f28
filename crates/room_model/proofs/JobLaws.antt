-- A crew that has an order is told of its incident; one that has none is told so.
use Rattle.std.proofs.Common.{ap, subst, sym, ◌∙◌}
use Rattle.std.specs.Prelude.{List, None, Ok, Option, Some, refl, ◌≡◌}
use Rattle.room_types.specs.Slices.{IsActive}
use Rattle.room_types.specs.Texts.{Callsign}
use Rattle.room_types.specs.declared.answers.Job.{Job}
use Rattle.room_types.specs.declared.tables.Assignment.{Assignment}
use Rattle.room_types.specs.declared.tables.Call.{Call}
use Rattle.room_types.specs.declared.tables.Incident.{Incident}
use Rattle.room_types.specs.declared.tables.Vehicle.{Vehicle}
use Rattle.room_model.proofs.SliceLaws.{order_active}
use Rattle.room_model.specs.CrewJobs.{job_in, job_of, show_job}
use Rattle.room_model.specs.Decisions.{Verdict, answer_of, where_found}
use Rattle.room_model.specs.Queries.{assignment_at, calls_of, incident_of, vehicle_at}
use Rattle.room_model.specs.Reports.{order_of, show_order}
use Rattle.room_model.specs.Room.{Room}
use Rattle.room_model.specs.RoomAgreements.{AssignmentAgrees, IsWellFormed}
use Rattle.room_types.specs.declared.answers.Answer.TheVariants as answer
use Rattle.room_types.specs.declared.refusal_statuses.Refusal.TheVariants as refusal

-- a job of this order is shown
abbrev Shows : Assignment → Verdict → Type 0
Shows a x = (job : Job) × (answer_of x ≡ Ok (answer.Job job)) × (job.order ≡ a)

of_incident : (a : Assignment) (v : Vehicle) (o : Option Incident) (calls : List Call) → IsActive o
    → Shows a (job_of v a o calls)
of_incident a v None calls active = absurd active
of_incident a v (Some i) calls active = (_, refl, refl)

module _ (c : Callsign) (a : Assignment) (r : Room) (formed : IsWellFormed r)
    (ordered : assignment_at c r ≡ Some a) where
  active : IsActive (incident_of a.division a.incident r)
  unfolding assignment_at incident_of
  active = order_active r formed c a ordered

  of_vehicle : (o : Option Vehicle) → AssignmentAgrees o (Some a)
      → Shows a (where_found o refusal.NoSuchVehicle (job_in r (Some a)))
  of_vehicle None agrees = absurd agrees
  of_vehicle (Some v) agrees =
      of_incident a v (incident_of a.division a.incident r) (calls_of a.division a.incident r) active

  agreed : AssignmentAgrees (vehicle_at c r) (Some a)
  unfolding assignment_at vehicle_at
  agreed = subst (AssignmentAgrees (vehicle_at c r)) ordered (formed.assignments c)

  pub job_shown : Shows a (show_job c r)
  job_shown =
      subst (λ o. Shows a (where_found (vehicle_at c r) refusal.NoSuchVehicle (job_in r o))) (sym ordered)
      (of_vehicle (vehicle_at c r) agreed)

-- without an order
pub job_of_none : (c : Callsign) (r : Room) → assignment_at c r ≡ None → show_job c r ≡ show_order c r
job_of_none c r none =
    ap (λ o. where_found (vehicle_at c r) refusal.NoSuchVehicle (job_in r o)) none ∙ of_either (vehicle_at c r)
    ∙ sym (ap (order_of (vehicle_at c r)) none)
  where
    of_either : (o : Option Vehicle)
        → where_found o refusal.NoSuchVehicle (job_in r None) ≡ order_of o None
    of_either None = refl
    of_either (Some v) = refl
