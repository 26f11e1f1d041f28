-- What a crew asks of its incident: its order, with what is known of the incident now.
use Rattle.std.specs.Prelude.{List, None, Option, Some, map}
use Rattle.room_types.specs.declared.tables.Assignment.{Assignment}
use Rattle.room_types.specs.declared.tables.Call.{Call}
use Rattle.room_types.specs.declared.tables.Incident.{Incident}
use Rattle.room_types.specs.declared.tables.Vehicle.{Vehicle}
use Rattle.room_types.specs.Texts.{Callsign}
use Rattle.room_model.specs.Decisions.{Verdict, show, where_found}
use Rattle.room_model.specs.Queries.{assignment_at, calls_of, incident_of, vehicle_at}
use Rattle.room_model.specs.Reports.{order_of}
use Rattle.room_model.specs.Room.{Room}
use Rattle.room_types.specs.declared.answers.Answer.TheVariants as answer
use Rattle.room_types.specs.declared.refusal_statuses.Refusal.TheVariants as refusal

-- the order, the class of its incident, and the notes of that incident's calls
abbrev pub job_of : Vehicle → Assignment → Option Incident → List Call → Verdict
job_of v a found calls = where_found found refusal.NoSuchIncident
    (λ i. show (answer.Job (record {
      order = a;
      post = v.post;
      status = v.status;
      class = i.class;
      notes = map (λ c. c.note) calls;
    })))

-- without an order the crew is answered as one that asks for its order
abbrev pub job_in : Room → Option Assignment → Vehicle → Verdict
job_in r None v = order_of (Some v) None
job_in r (Some a) v =
    job_of v a (incident_of a.division a.incident r) (calls_of a.division a.incident r)

abbrev pub show_job : Callsign → Room → Verdict
show_job c r = where_found (vehicle_at c r) refusal.NoSuchVehicle (job_in r (assignment_at c r))
