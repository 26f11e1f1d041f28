-- What becomes of events that speak of what stayed behind.
use Rattle.std.proofs.Common.{ap, arith, eq-eqb, inl, inr, subst, sym, ◌∙◌}
use Rattle.std.specs.Prelude.{Bool, Err, List, None, Option, Some, [], cond, filter, is_some, map}
use Rattle.std.specs.Prelude.{max, nat_lt, not, refl, true, ℕ, ℤ, ◌<◌, ◌==◌, ◌||◌, ◌∷◌, ◌≡◌}
use Rattle.room_place.specs.Plans.{division_of}
use Rattle.room_types.specs.KeyedRows.{keep, put_row, row_at}
use Rattle.room_types.specs.Keys.{callsign_cmp, numbered_cmp, report_key, vehicle_key}
use Rattle.room_types.specs.KeyLemmas.{callsigns_total, exact_callsigns}
use Rattle.room_types.specs.Texts.{Callsign}
use Rattle.room_types.specs.declared.asks.Ask.{Ask}
use Rattle.room_types.specs.declared.asks.CallForm.{CallForm}
use Rattle.room_types.specs.declared.asks.Press.{Press}
use Rattle.room_types.specs.declared.asks.Search.{Search}
use Rattle.room_types.specs.declared.asks.Who.{Who}
use Rattle.room_types.specs.declared.asks.Who.TheVariants.{Crew, Desk, Position}
use Rattle.room_types.specs.declared.changes.Change.TheVariants.{PutReport, PutVehicle}
use Rattle.room_types.specs.declared.codes.Outcome.TheVariants.{Late}
use Rattle.room_types.specs.declared.tables.Call.{Call}
use Rattle.room_types.specs.declared.tables.Incident.{Incident}
use Rattle.room_types.specs.declared.tables.Loan.{Loan}
use Rattle.room_types.specs.declared.tables.Report.{Report}
use Rattle.room_types.specs.declared.tables.Turn.{Turn}
use Rattle.room_types.specs.declared.tables.Vehicle.{Vehicle}
use Rattle.room_model.proofs.DecisionLaws.{by_refuse}
use Rattle.room_model.proofs.NamedIncidents.{IsIdle, absent_is_refused, idle_changes_nothing}
use Rattle.room_model.proofs.Others.{put_same}
use Rattle.room_model.proofs.Questions.{ChangesNothing, IsQuiet, quiet_shows}
use Rattle.room_model.proofs.Tests.{either_true, filters_turned, or_left, or_right, row_key}
use Rattle.room_model.specs.Calls.{call_kept, call_somewhere, new_call}
use Rattle.room_model.specs.ClosedIncidents.{from_number, incidents_found, page_of, show_closed}
use Rattle.room_model.specs.DayTimes.{class_line, show_class_times, show_times, times_line}
use Rattle.room_model.specs.DayTimes.{times_of}
use Rattle.room_model.specs.Decisions.{answer_of, changes_of, show, with_changes}
use Rattle.room_model.specs.Events.{by_crew, by_desk, by_position}
use Rattle.room_model.specs.Queries.{borrowed, held, incident_of, incidents_opened, kept_call}
use Rattle.room_model.specs.Queries.{kept_report, open_turn, reports_of, vehicle_at}
use Rattle.room_model.specs.Queue.{show_reports}
use Rattle.room_model.specs.Reports.{report_held, report_in, report_kept, report_row}
use Rattle.room_model.specs.Reports.{report_somewhere, with_report}
use Rattle.room_model.specs.Room.{IsInOrder, Room, apply}
use Rattle.room_model.specs.Step.{decided, desk_asks}
use Rattle.room_model.specs.WorkingRows.{NamedIncidents, NoIncident, OneIncident, TwoIncidents}
use Rattle.room_model.specs.WorkingRows.{incidents_named, is_among}
use Rattle.room_model.specs.RoomAgreements.{IsWellFormed}
use Rattle.dispatch_room_archive.proofs.IncidentsLeft.{found_left}
use Rattle.dispatch_room_archive.proofs.MovesAlike.{moves_none, moves_nothing}
use Rattle.dispatch_room_archive.proofs.RowsLeft.{call_gone, incident_gone, report_gone}
use Rattle.dispatch_room_archive.specs.Continuation.{IsOver, IsSettled, IsTakenLate, StaysBehind}
use Rattle.dispatch_room_archive.specs.Continuation.{asks_back, looks_back, moves_behind}
use Rattle.dispatch_room_archive.specs.Continuation.{names_behind, sends_again, stayed_behind}
use Rattle.dispatch_room_archive.specs.Successor.{Behind, without}
use Rattle.room_types.specs.declared.answers.Answer.TheVariants as answer
use Rattle.room_types.specs.declared.asks.Ask.TheVariants as ask
use Rattle.room_types.specs.declared.refusal_statuses.Refusal.TheVariants as refusal

looks_quiet : (since : ℕ) (b : Behind) (d : ℕ) (r : Room) (a : Ask)
    → looks_back since b d r a ≡ true → IsQuiet (Desk d) a
looks_quiet since b d r (ask.Times from to) e = refl
looks_quiet since b d r (ask.ClassTimes from to) e = refl
looks_quiet since b d r (ask.Closed from to x) e = refl
looks_quiet since b d r (ask.Reports c) e = refl
looks_quiet since b d r (ask.Incident n) e = refl
looks_quiet since b d r a e = cc

module _ (since : ℕ) (b : Behind) (r : Room) (h : StaysBehind since b r) where
  abbrev new : Room
  new = without b r

  -- an incident that stayed behind is named
  of_named : (d : ℕ) (named : NamedIncidents) → stayed_behind b d named ≡ true
      → (n : ℕ) × ((is_among named n ≡ true) × (b.incident d n ≡ true))
  of_named d NoIncident e = cc
  of_named d (OneIncident n) e = (n, (eq-eqb n n refl, e))
  of_named d (TwoIncidents n m) e = elim (either_true (b.incident d n) (b.incident d m) e) [
    | inl f ↦ (n, (or_left _ _ (eq-eqb n n refl), f))
    | inr f ↦ (m, (or_right (n == m) _ (eq-eqb m m refl), f))
  ]

  is_idle : (o : Option Incident) → IsOver since o → IsIdle o
  is_idle None over = absurd over
  is_idle (Some i) over = over.0

  -- ---- in the old room it changes nothing
  names_nothing : (d : ℕ) (a : Ask) (at : ℕ) → names_behind b d a ≡ true
      → ChangesNothing (desk_asks d a at r)
  names_nothing d a at e =
      let named = of_named d (incidents_named a) e in
      idle_changes_nothing d r named.0 a at named.1.0
      (is_idle (incident_of d named.0 r) (h.incidents d named.0 named.1.1))

  pub asks_nothing : (who : Who) (a : Ask) (at : ℕ) → asks_back since b who r a ≡ true
      → changes_of (decided (record { who = who; ask = a; at = at }) r) ≡ []
  asks_nothing (Desk d) a at e =
      elim (either_true (names_behind b d a) (moves_behind b d a || looks_back since b d r a) e) [
        | inl f ↦ names_nothing d a at f
        | inr more ↦ elim (either_true (moves_behind b d a) (looks_back since b d r a) more) [
          | inl f ↦ moves_nothing since b r h d a at f
          | inr f ↦ quiet_shows at r (Desk d) a (looks_quiet since b d r a f)
        ]
      ]
  asks_nothing (Position p) a at e = cc
  asks_nothing (Crew c) a at e = cc

  again_call : (p : ℕ) (f : CallForm) (at : ℕ) (o : Option Call) → kept_call p f.serial r ≡ o
      → is_some (keep (λ c. b.incident c.division c.incident) o) ≡ true
      → changes_of (call_kept o (new_call p f at) r) ≡ []
  again_call p f at None e g = cc
  again_call p f at (Some k) e g = by_refuse ChangesNothing _ _ _ refl (λ x. refl)

  again_report : (v : Option Vehicle) (c : Callsign) (p : Press) (at : ℕ) (o : Option Report)
      → IsSettled v p.number o → changes_of (report_kept o c p at r) ≡ []
  again_report v c p at None g = absurd g
  again_report v c p at (Some k) g = by_refuse ChangesNothing _ _ _ refl (λ x. refl)

  pub again_nothing : (who : Who) (a : Ask) (at : ℕ) → sends_again b who a ≡ true
      → changes_of (decided (record { who = who; ask = a; at = at }) r) ≡ []
  again_nothing (Position p) (ask.Call f) at e =
      again_call p f at (kept_call p f.serial r) refl (sym (h.calls p f.serial) ∙ e)
  again_nothing (Crew c) (ask.Report p) at e =
      again_report (vehicle_at c r) c p at (kept_report c p.number r) (h.reports c p.number e)
  again_nothing who a at e = cc

  -- ---- in the new room what stayed behind is not there
  module _ (order : IsInOrder r) where
    none_there : (d n : ℕ) → b.incident d n ≡ true → incident_of d n new ≡ None
    unfolding incident_of
    none_there d n e = incident_gone b r order d n e

    pub names_none : (d : ℕ) (a : Ask) (at : ℕ) → names_behind b d a ≡ true
        → desk_asks d a at new ≡ Err refusal.NoSuchIncident
    names_none d a at e =
        let named = of_named d (incidents_named a) e in
        absent_is_refused d new named.0 a at named.1.0 (none_there d named.0 named.1.1)

    pub call_again : (p : ℕ) (f : CallForm) (at : ℕ) → b.call p f.serial ≡ true
        → decided (by_position p (ask.Call f) at) new
        ≡ call_somewhere (division_of new.plan f.place) (new_call p f at) new
    unfolding kept_call
    call_again p f at e = ap (λ o. call_kept o (new_call p f at) new) (call_gone b r order p f.serial e)

    late_is : (v : Vehicle) (t : Option Turn) (l : Option Loan) (p : Press) (at : ℕ)
        → p.number < v.last_report → report_held (Some v) t l p at
        ≡ with_changes (answer.Reported p.number Late v.status) (PutReport (report_row v p at Late v.status)
        ∷ PutVehicle (with_report v p) ∷ [])
    late_is v t l p at less = rw (is_below p.number v.last_report less) refl
      where
        is_below : (n m : ℕ) → n < m → nat_lt n m ≡ true
        is_below n m less = grind (arith, less)

    late_vehicle : (v : Vehicle) (p : Press) → p.number < v.last_report → with_report v p ≡ v
    late_vehicle v p less =
        let same : max v.last_report p.number ≡ v.last_report = omega (arith, less) in
        ap (λ (n : ℕ). record v { last_report = n }) same

    held_itself : (c : Callsign) (v : Vehicle) → vehicle_at c new ≡ Some v
        → held v.holder c new ≡ Some v
    unfolding held vehicle_at
    held_itself c v e =
        ap (keep (λ (x : Vehicle). x.holder == v.holder)) e
        ∙ ap (λ (x : Bool). cond x (Some v) None) (eq-eqb v.holder v.holder refl)

    late_decided : (c : Callsign) (p : Press) (at : ℕ) (v : Vehicle) → b.report c p.number ≡ true
        → vehicle_at c new ≡ Some v → p.number < v.last_report
        → decided (by_crew c (ask.Report p) at) new
        ≡ with_changes (answer.Reported p.number Late v.status) (PutReport (report_row v p at Late v.status)
        ∷ PutVehicle (with_report v p) ∷ [])
    unfolding kept_report report_in
    late_decided c p at v e there less =
        ap (λ o. report_kept o c p at new) (report_gone b r order c p.number e)
        ∙ (ap (λ o. report_somewhere o c p at new) there
        ∙ (ap (λ o. report_held o (open_turn v.holder c new) (borrowed v.holder c new) p at) (held_itself c v there)
        ∙ late_is v (open_turn v.holder c new) (borrowed v.holder c new) p at less))

    late_rows : (c : Callsign) (v : Vehicle) (p : Press) (x : Report) → vehicle_at c new ≡ Some v
        → p.number < v.last_report
        → apply new (PutReport x ∷ PutVehicle (with_report v p) ∷ [])
        ≡ record new { reports = put_row numbered_cmp report_key new.reports x }
    unfolding vehicle_at
    late_rows c v p x there less =
        ap (λ (u : Vehicle). record new {
          reports = put_row numbered_cmp report_key new.reports x;
          vehicles = put_row callsign_cmp vehicle_key r.vehicles u;
        }) (late_vehicle v p less)
        ∙ ap
        (λ (vs : List Vehicle). record new { reports = put_row numbered_cmp report_key new.reports x; vehicles = vs })
        (put_same callsign_cmp vehicle_key callsigns_total r.vehicles v order.vehicles
        (subst (λ (k : Callsign). row_at callsign_cmp vehicle_key r.vehicles k ≡ Some v)
        (row_key callsign_cmp vehicle_key callsigns_total exact_callsigns r.vehicles c v there) there))

    taken_late : (c : Callsign) (p : Press) (at : ℕ) (o : Option Vehicle) (x : Option Report)
        → vehicle_at c new ≡ o → b.report c p.number ≡ true → IsSettled o p.number x
        → IsTakenLate c p at new
    taken_late c p at o None there e g = absurd g
    taken_late c p at None (Some x) there e g = absurd g
    taken_late c p at (Some v) (Some x) there e g =
        let same = late_decided c p at v e there g.1 in
        record {
          vehicle = v;
          there = there;
          answer = ap answer_of same;
          rows = ap (λ y. apply new (changes_of y)) same ∙ late_rows c v p (report_row v p at Late v.status) there g.1;
        }

    pub report_again : (c : Callsign) (p : Press) (at : ℕ) → b.report c p.number ≡ true
        → IsTakenLate c p at new
    unfolding vehicle_at
    report_again c p at e =
        taken_late c p at (vehicle_at c r) (kept_report c p.number r) refl e (h.reports c p.number e)

  pub asks_none : IsWellFormed r → (who : Who) (a : Ask) (at : ℕ) → asks_back since b who r a ≡ true
      → changes_of (decided (record { who = who; ask = a; at = at }) new) ≡ []
  asks_none w (Desk d) a at e =
      elim (either_true (names_behind b d a) (moves_behind b d a || looks_back since b d r a) e) [
        | inl f ↦ ap changes_of (names_none w.order d a at f)
        | inr more ↦ elim (either_true (moves_behind b d a) (looks_back since b d r a) more) [
          | inl f ↦ moves_none since b r w h d a at f
          | inr f ↦ quiet_shows at new (Desk d) a (looks_quiet since b d r a f)
        ]
      ]
  asks_none w (Position p) a at e = cc
  asks_none w (Crew c) a at e = cc

-- ---- the times that are left
pub times_left : (b : Behind) (r : Room) (d : ℕ) (from to : ℤ) (at : ℕ)
    → decided (by_desk d (ask.Times from to) at) (without b r)
    ≡ show (answer.Times (times_of from to (map times_line
    (filter (λ i. not (b.incident i.division i.number)) (incidents_opened d from to r)))))
unfolding show_times incidents_opened
times_left b r d from to at =
    ap (λ is. show (answer.Times (times_of from to (map times_line is))))
    (filters_turned _ (λ i. not (b.incident i.division i.number)) r.incidents)

pub class_times_left : (b : Behind) (r : Room) (d : ℕ) (from to : ℤ) (at : ℕ)
    → decided (by_desk d (ask.ClassTimes from to) at) (without b r)
    ≡ show (answer.ClassTimes (record {
      from = from;
      to = to;
      lines =
          map
          (class_line (filter (λ i. not (b.incident i.division i.number)) (incidents_opened d from to r)))
          (1 ∷ 2 ∷ 3 ∷ []);
    }))
unfolding show_class_times incidents_opened
class_times_left b r d from to at =
    ap (λ is. show (answer.ClassTimes (record {
      from = from;
      to = to;
      lines = map (class_line is) (1 ∷ 2 ∷ 3 ∷ []);
    })))
    (filters_turned _ (λ i. not (b.incident i.division i.number)) r.incidents)

-- ---- the incidents found that are left
pub closed_left : (b : Behind) (r : Room) (d : ℕ) (from to : ℤ) (x : Search) (at : ℕ)
    → decided (by_desk d (ask.Closed from to x) at) (without b r)
    ≡ show (answer.Closed (page_of (from_number x.first
    (filter (λ i. not (b.incident i.division i.number)) (incidents_found d from to x.sought r)))))
unfolding show_closed
closed_left b r d from to x at =
    ap (λ is. show (answer.Closed (page_of (from_number x.first is)))) (found_left b r d from to x.sought)

-- ---- a vehicle's reports that are left
pub reports_left : (b : Behind) (r : Room) (d : ℕ) (c : Callsign) (at : ℕ)
    → decided (by_desk d (ask.Reports c) at) (without b r)
    ≡ show (answer.Reports (filter (λ x. not (b.report x.callsign x.number)) (reports_of d c r)))
unfolding show_reports reports_of
reports_left b r d c at =
    ap (λ xs. show (answer.Reports xs)) (filters_turned _ (λ x. not (b.report x.callsign x.number)) r.reports)
