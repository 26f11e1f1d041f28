-- What the machine refuses.
use Rattle.std.specs.Prelude.{Bool, Err, IfErr, List, None, Ok, Option, Some, [], false, refl, true}
use Rattle.std.specs.Prelude.{ℕ, ◌∷◌, ◌≡◌}
use Rattle.room_types.specs.declared.asks.Move.{Move}
use Rattle.room_types.specs.declared.answers.MoveLine.{MoveLine}
use Rattle.room_types.specs.declared.asks.Ask.{Ask}
use Rattle.room_types.specs.declared.asks.Event.{Event}
use Rattle.room_types.specs.declared.asks.NewCall.{NewCall}
use Rattle.room_types.specs.declared.asks.Press.{Press}
use Rattle.room_types.specs.declared.asks.Who.{Who}
use Rattle.room_types.specs.declared.asks.Who.TheVariants.{Crew, Desk, Position}
use Rattle.room_types.specs.declared.changes.Change.{Change}
use Rattle.room_types.specs.declared.refusal_statuses.Refusal.{Refusal}
use Rattle.room_types.specs.declared.tables.Assignment.{Assignment}
use Rattle.room_types.specs.declared.tables.Call.{Call}
use Rattle.room_types.specs.declared.tables.Division.{Division}
use Rattle.room_types.specs.declared.tables.Incident.{Incident}
use Rattle.room_types.specs.declared.tables.Loan.{Loan}
use Rattle.room_types.specs.declared.tables.Offer.{Offer}
use Rattle.room_types.specs.declared.tables.Report.{Report}
use Rattle.room_types.specs.declared.tables.Turn.{Turn}
use Rattle.room_types.specs.declared.tables.Vehicle.{Vehicle}
use Rattle.room_types.specs.Texts.{Callsign}
use Rattle.room_model.proofs.DecisionLaws.{by_report}
use Rattle.room_model.proofs.MoveFolds.{by_ask}
use Rattle.room_model.specs.Calls.{call_in, call_kept, call_new, call_somewhere, call_taken}
use Rattle.room_model.specs.Calls.{new_call}
use Rattle.room_model.specs.CrewJobs.{job_in}
use Rattle.room_model.specs.ClosedIncidents.{show_closed}
use Rattle.room_model.specs.DayTimes.{show_class_times, show_times}
use Rattle.room_model.specs.Decisions.{Verdict, answer_of, refuse_if, where_active, where_found}
use Rattle.room_model.specs.Decisions.{where_held}
use Rattle.room_model.specs.Incidents.{change_needs, close, merge, merge_of, show_incident}
use Rattle.room_model.specs.Incidents.{show_incidents}
use Rattle.room_model.specs.Loans.{accept, accepted, decline, declined, give_back, lend, recall}
use Rattle.room_model.specs.Loans.{recall_lent, show_loans, show_offers, withdraw, withdrawn}
use Rattle.room_model.specs.Points.{show_points}
use Rattle.room_model.specs.Proposals.{propose}
use Rattle.room_model.specs.Queries.{assignment_at, vehicle_at}
use Rattle.room_model.specs.Queue.{clear, clear_found, show_queue, show_reports}
use Rattle.room_model.specs.Reports.{report_held, report_in, report_kept, report_somewhere}
use Rattle.room_model.specs.Room.{Room, apply}
use Rattle.room_model.specs.Step.{Course, and_then, answer_to, ask_of, course, course_after}
use Rattle.room_model.specs.Step.{desk_asks, is_of_role, is_of_the_room, line_of, moves_in}
use Rattle.room_model.specs.Step.{position_asks, single_asks, verdict_of, who_asks}
use Rattle.room_model.specs.Vehicles.{duty, mobilise, off, show_vehicles, stand_down, standby}
use Rattle.room_model.specs.Vehicles.{standby_at}
use Rattle.room_types.specs.declared.asks.Ask.TheVariants as ask
use Rattle.room_types.specs.declared.refusal_statuses.Refusal.TheVariants as refusal

-- where it is a refusal, it is one of the room's
abbrev pub Refuses : Verdict → Type 0
Refuses (Ok x) = Unit {0}
Refuses (Err why) = is_of_the_room why ≡ true

-- ---- by the form of a decision
by_test : (b : Bool) (why : Refusal) (x : Verdict) → is_of_the_room why ≡ true → Refuses x
    → Refuses (refuse_if b why x)
unfolding refuse_if
by_test true why x h f = h
by_test false why x h f = f

by_held : (v : Option Vehicle) (l : Option Loan) (f : Vehicle → Verdict)
    → ((v : Vehicle) → Refuses (f v)) → Refuses (where_held v l f)
by_held (Some v) l f g = g v
by_held None (Some l) f g = refl
by_held None None f g = refl

by_active : (i : Option Incident) (f : Incident → Verdict) → ((i : Incident) → Refuses (f i))
    → Refuses (where_active i f)
by_active None f g = refl
by_active (Some i) f g = by_test _ _ _ refl (g i)

-- ---- by what is looked up
by_found : {X : Type 0} (o : Option X) (why : Refusal) (f : X → Verdict)
    → is_of_the_room why ≡ true → ((x : X) → Refuses (f x)) → Refuses (where_found o why f)
by_found None why f h g = h
by_found (Some x) why f h g = g x

by_merge : (n m : Option Incident) (b : Bool) (cs : List Call) → Refuses (merge_of n m b cs)
by_merge None m b cs = refl
by_merge (Some n) None b cs = refl
by_merge (Some n) (Some m) b cs = by_test _ _ _ refl (by_test _ _ _ refl (by_test _ _ _ refl (by_test _ _ _ refl tt)))

by_point : (p : Option ℕ) (has : ℕ → Bool) (at : ℕ) (v : Vehicle) → Refuses (standby_at p has at v)
by_point None has at v = tt
by_point (Some n) has at v = by_test _ _ _ refl (by_test _ _ _ refl tt)

by_withdrawn : (o : Option Offer) (v : Vehicle) → Refuses (withdrawn o v)
by_withdrawn None v = refl
by_withdrawn (Some o) v = tt

by_declined : (o : Option Offer) → Refuses (declined o)
by_declined None = refl
by_declined (Some o) = tt

by_accepted : (o : Option Offer) (at : ℕ) → Refuses (accepted o at)
by_accepted None at = refl
by_accepted (Some o) at = tt

by_lent : (l : Option Loan) (v : Option Vehicle) → Refuses (recall_lent l v)
by_lent (Some l) v = tt
by_lent None (Some v) = refl
by_lent None None = refl

by_exception : (x : Option Report) → Refuses (clear_found x)
by_exception None = refl
by_exception (Some x) = by_test _ _ _ refl tt

ruleset by_form = (
  by_test,
  by_held,
  by_active,
  by_found,
  by_merge,
  by_point,
  by_withdrawn,
  by_declined,
  by_accepted,
  by_lent,
  by_exception,
)

-- ---- moves, one after another
move_refuses : (d : ℕ) (m : Move) (at : ℕ) (r : Room) → Refuses (single_asks d (ask_of m) at r)
unfolding mobilise stand_down
move_refuses d m at r =
    by_ask (λ a. Refuses (single_asks d a at r)) (λ c. search by_form depth 9)
    (λ n c. search by_form depth 9) m

after_refuses : (cs : List Change) (l : MoveLine) (x : Course) → Refuses (verdict_of x)
    → Refuses (verdict_of (course_after cs l x))
after_refuses cs l (Ok x) h = tt
after_refuses cs l (Err why) h = h

then_refuses : (m : Move) (x : Verdict) (rest : List Change → Course) → Refuses x
    → ((cs : List Change) → Refuses (verdict_of (rest cs)))
    → Refuses (verdict_of (and_then m x rest))
then_refuses m (Ok x) rest h g = after_refuses x.changes (line_of m x.answer) (rest x.changes) (g x.changes)
then_refuses m (Err why) rest h g = h

course_refuses : (d : ℕ) (ms : List Move) (at : ℕ) (r : Room)
    → Refuses (verdict_of (course d ms at r))
course_refuses d [] at r = tt
course_refuses d (m ∷ ms) at r =
    then_refuses m (single_asks d (ask_of m) at r) (λ cs. course d ms at (apply r cs))
    (move_refuses d m at r) (λ cs. course_refuses d ms at (apply r cs))

module _ (r : Room) where
  desk_refuses : (d : ℕ) (a : Ask) (at : ℕ) → is_of_role (Desk d) a ≡ true
      → Refuses (desk_asks d a at r)
  unfolding show_incidents show_incident show_vehicles show_reports show_queue show_points show_loans show_offers
      show_times show_class_times show_closed propose mobilise change_needs merge close stand_down standby duty off lend
      withdraw decline accept recall give_back clear
  desk_refuses d (ask.Call f) at h = cc
  desk_refuses d (ask.Moves ms) at h = course_refuses d (moves_in ms) at r
  desk_refuses d a at h = first_of (cc, search by_form depth 9)

  -- ---- calls
  by_number : (d : ℕ) (new : NewCall) (v : Option Division) → Refuses (call_new d new v)
  by_number d new None = refl
  by_number d new (Some v) = by_test _ _ _ refl tt

  by_link : (d : ℕ) (new : NewCall) (i : Option Incident) (v : Option Division)
      → Refuses (call_taken d new i v)
  by_link d new (Some i) v = tt
  by_link d new None v = by_number d new v

  by_place : (o : Option ℕ) (new : NewCall) → Refuses (call_somewhere o new r)
  unfolding call_in
  by_place None new = refl
  by_place (Some d) new = by_link d new _ _

  by_serial : (o : Option Call) (new : NewCall) → Refuses (call_kept o new r)
  by_serial None new = by_place _ new
  by_serial (Some k) new = by_test _ _ _ refl tt

  position_refuses : (p : ℕ) (a : Ask) (at : ℕ) → is_of_role (Position p) a ≡ true
      → Refuses (position_asks p a at r)
  position_refuses p (ask.Call f) at h = by_serial _ (new_call p f at)
  position_refuses p ask.Last at h = tt
  position_refuses p a at h = cc

  -- ---- reports
  by_vehicle : (v : Option Vehicle) (t : Option Turn) (l : Option Loan) (p : Press) (at : ℕ)
      → Refuses (report_held v t l p at)
  by_vehicle None t l p at = refl
  by_vehicle (Some v) t l p at = by_report Refuses v t l p at (λ o. tt) (λ o. tt) _

  by_holder : (v : Option Vehicle) (c : Callsign) (p : Press) (at : ℕ)
      → Refuses (report_somewhere v c p at r)
  unfolding report_in
  by_holder None c p at = refl
  by_holder (Some v) c p at = by_vehicle _ _ _ p at

  by_report_number : (o : Option Report) (c : Callsign) (p : Press) (at : ℕ)
      → Refuses (report_kept o c p at r)
  by_report_number None c p at = by_holder _ c p at
  by_report_number (Some k) c p at = by_test _ _ _ refl tt

  by_job : (o : Option Assignment) (v : Vehicle) → Refuses (job_in r o v)
  by_job None v = tt
  by_job (Some a) v = search by_form depth 9

  crew_refuses : (c : Callsign) (a : Ask) (at : ℕ) → is_of_role (Crew c) a ≡ true
      → Refuses (who_asks (Crew c) a at r)
  crew_refuses c (ask.Report p) at h = by_report_number _ c p at
  crew_refuses c ask.Job at h =
      by_found (vehicle_at c r) refusal.NoSuchVehicle (job_in r (assignment_at c r)) refl (by_job (assignment_at c r))
  crew_refuses c a at h = first_of (cc, search by_form depth 9)

  who_refuses : (who : Who) (a : Ask) (at : ℕ) → is_of_role who a ≡ true
      → Refuses (who_asks who a at r)
  who_refuses (Desk d) a at h = desk_refuses d a at h
  who_refuses (Position p) a at h = position_refuses p a at h
  who_refuses (Crew c) a at h = crew_refuses c a at h

  -- what is another role's
  desk_wrong : (d : ℕ) (a : Ask) (at : ℕ) → is_of_role (Desk d) a ≡ false
      → desk_asks d a at r ≡ Err refusal.WrongRole
  desk_wrong d (ask.Call f) at h = refl
  desk_wrong d ask.Order at h = refl
  desk_wrong d ask.Job at h = refl
  desk_wrong d (ask.Report p) at h = refl
  desk_wrong d ask.Last at h = refl
  desk_wrong d a at h = cc

  position_wrong : (p : ℕ) (a : Ask) (at : ℕ) → is_of_role (Position p) a ≡ false
      → position_asks p a at r ≡ Err refusal.WrongRole
  position_wrong p (ask.Call f) at h = cc
  position_wrong p ask.Last at h = cc
  position_wrong p a at h = refl

  crew_wrong : (c : Callsign) (a : Ask) (at : ℕ) → is_of_role (Crew c) a ≡ false
      → who_asks (Crew c) a at r ≡ Err refusal.WrongRole
  crew_wrong c ask.Order at h = cc
  crew_wrong c ask.Job at h = cc
  crew_wrong c (ask.Report p) at h = cc
  crew_wrong c ask.Last at h = cc
  crew_wrong c a at h = refl

  pub wrong_role : (who : Who) (a : Ask) (at : ℕ) → is_of_role who a ≡ false
      → who_asks who a at r ≡ Err refusal.WrongRole
  wrong_role (Desk d) a at h = desk_wrong d a at h
  wrong_role (Position p) a at h = position_wrong p a at h
  wrong_role (Crew c) a at h = crew_wrong c a at h

refused_so : (x : Verdict) → Refuses x → IfErr (answer_of x) (λ why. is_of_the_room why ≡ true)
refused_so (Ok x) h = tt
refused_so (Err why) h = h

pub refusals_of_room : (e : Event) (r : Room) → is_of_role e.who e.ask ≡ true
    → IfErr (answer_to e r) (λ why. is_of_the_room why ≡ true)
refusals_of_room e r h = refused_so _ (who_refuses r e.who e.ask e.at h)
