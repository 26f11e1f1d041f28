-- A question changes nothing, whoever asks.
use Rattle.std.proofs.Common.{ap, subst, sym}
use Rattle.std.specs.Prelude.{List, None, Option, Some, [], not, refl, true, ℕ, ◌||◌, ◌≡◌}
use Rattle.room_types.specs.Codes.{is_active}
use Rattle.room_types.specs.Texts.{Callsign}
use Rattle.room_types.specs.declared.asks.Ask.{Ask}
use Rattle.room_types.specs.declared.asks.Event.{Event}
use Rattle.room_types.specs.declared.asks.Who.{Who}
use Rattle.room_types.specs.declared.asks.Who.TheVariants.{Crew, Desk, Position}
use Rattle.room_types.specs.declared.changes.Change.{Change}
use Rattle.room_types.specs.declared.refusal_statuses.Refusal.{Refusal}
use Rattle.room_types.specs.declared.tables.Assignment.{Assignment}
use Rattle.room_types.specs.declared.tables.Call.{Call}
use Rattle.room_types.specs.declared.tables.Incident.{Incident}
use Rattle.room_types.specs.declared.tables.Loan.{Loan}
use Rattle.room_types.specs.declared.tables.Vehicle.{Vehicle}
use Rattle.room_model.proofs.DecisionLaws.{by_refuse}
use Rattle.room_model.proofs.Tests.{or_left}
use Rattle.room_model.specs.CrewJobs.{job_in}
use Rattle.room_model.specs.ClosedIncidents.{show_closed}
use Rattle.room_model.specs.DayTimes.{show_class_times, show_times}
use Rattle.room_model.specs.Decisions.{Verdict, changes_of, where_active, where_found, where_held}
use Rattle.room_model.specs.Incidents.{show_incident, show_incidents}
use Rattle.room_model.specs.Loans.{show_loans, show_offers}
use Rattle.room_model.specs.Points.{show_points}
use Rattle.room_model.specs.Proposals.{propose}
use Rattle.room_model.specs.Queries.{assignment_at, vehicle_at}
use Rattle.room_model.specs.Queue.{show_queue, show_reports}
use Rattle.room_model.specs.Room.{Room, apply}
use Rattle.room_model.specs.Step.{desk_asks, is_of_role, is_question, position_asks, room_after}
use Rattle.room_model.specs.Step.{who_asks}
use Rattle.room_model.specs.Vehicles.{show_vehicles}
use Rattle.room_types.specs.declared.asks.Ask.TheVariants as ask
use Rattle.room_types.specs.declared.refusal_statuses.Refusal.TheVariants as refusal

abbrev pub ChangesNothing : Verdict → Type 0
ChangesNothing x = changes_of x ≡ []

by_active : (o : Option Incident) (f : Incident → Verdict) → ((i : Incident) → ChangesNothing (f i))
    → ChangesNothing (where_active o f)
by_active None f g = refl
by_active (Some i) f g =
    by_refuse ChangesNothing (not (is_active i.state)) refusal.IncidentNotOpen (f i) refl (λ e. g i)

by_found : {X : Type 0} (o : Option X) (why : Refusal) (f : X → Verdict)
    → ((x : X) → ChangesNothing (f x)) → ChangesNothing (where_found o why f)
by_found None why f g = refl
by_found (Some x) why f g = g x

by_held : (v : Option Vehicle) (l : Option Loan) (f : Vehicle → Verdict)
    → ((v : Vehicle) → ChangesNothing (f v)) → ChangesNothing (where_held v l f)
by_held None l f g = refl
by_held (Some v) l f g = g v

ruleset by_form = (by_active, by_found, by_held)

-- a question, or what another role may ask
abbrev pub IsQuiet : Who → Ask → Type 0
IsQuiet who a = is_question a || not (is_of_role who a) ≡ true

module _ (at : ℕ) (r : Room) where
  desk_shows : (d : ℕ) (a : Ask) → IsQuiet (Desk d) a → ChangesNothing (desk_asks d a at r)
  unfolding show_incidents show_incident show_vehicles show_reports show_queue show_points show_loans show_offers
      show_times show_class_times show_closed propose
  desk_shows d (ask.Call f) h = refl
  desk_shows d a h = first_of (cc, search by_form depth 9)

  job_shows : (o : Option Assignment) (v : Vehicle) → ChangesNothing (job_in r o v)
  job_shows None v = refl
  job_shows (Some a) v = search by_form depth 9

  crew_shows : (c : Callsign) (a : Ask) → IsQuiet (Crew c) a → ChangesNothing (who_asks (Crew c) a at r)
  crew_shows c (ask.Report p) h = cc
  crew_shows c ask.Job h =
      by_found (vehicle_at c r) refusal.NoSuchVehicle (job_in r (assignment_at c r)) (job_shows (assignment_at c r))
  crew_shows c a h = first_of (cc, search by_form depth 9)

  position_shows : (p : ℕ) (a : Ask) → IsQuiet (Position p) a
      → ChangesNothing (position_asks p a at r)
  position_shows p ask.Last h = refl
  position_shows p a h = cc

  pub quiet_shows : (who : Who) (a : Ask) → IsQuiet who a → ChangesNothing (who_asks who a at r)
  quiet_shows (Desk d) a h = desk_shows d a h
  quiet_shows (Crew c) a h = crew_shows c a h
  quiet_shows (Position p) a h = position_shows p a h

  -- what holds of no changes, holds of what changes nothing
  pub by_quiet : (P : List Change → Type 0) (who : Who) (a : Ask) → IsQuiet who a → P []
      → P (changes_of (who_asks who a at r))
  by_quiet P who a h none = subst P (sym (quiet_shows who a h)) none

pub question_stays : (e : Event) (r : Room) → is_question e.ask ≡ true → room_after e r ≡ r
question_stays e r h = ap (apply r) (quiet_shows e.at r e.who e.ask (or_left _ _ h))
