-- The effects of each event.
use Rattle.std.proofs.Common.{ap, arith, eqb-true, eq-eqb, inl, inr, subst, sym, ◌∙◌}
use Rattle.std.specs.Prelude.{Bool, List, None, Ok, Option, Some, [], cond, false, filter, is_none}
use Rattle.std.specs.Prelude.{is_some, map, not, refl, true, ℕ, ◌&&◌, ◌+◌, ◌==◌, ◌||◌, ◌∷◌, ◌≡◌}
use Rattle.std.specs.Prelude.{◌⊎◌}
use Rattle.std.specs.Ordering.{nat_cmp}
use Rattle.room_place.specs.Choice.{Among, least_from}
use Rattle.room_place.specs.Plans.{division_of}
use Rattle.room_place.specs.declared.places.Place.{Place}
use Rattle.room_types.specs.Codes.{acts, is_active, is_free, is_off, same_button}
use Rattle.room_types.specs.KeyLemmas.{callsigns_total, exact_callsigns, exact_numbered, exact_pair}
use Rattle.room_types.specs.KeyLemmas.{numbered_total, pairs_total}
use Rattle.room_types.specs.KeyedRows.{row_at}
use Rattle.room_types.specs.Keys.{callsign_cmp, division_key, incident_key, loan_key, numbered_cmp}
use Rattle.room_types.specs.Keys.{offer_key, pair_cmp, report_key, turn_key}
use Rattle.room_types.specs.Texts.{Callsign}
use Rattle.room_types.specs.declared.answers.Answer.TheVariants as answer
use Rattle.room_types.specs.declared.asks.Ask.{Ask}
use Rattle.room_types.specs.declared.asks.Ask.TheVariants as ask
use Rattle.room_types.specs.declared.asks.Event.{Event}
use Rattle.room_types.specs.declared.asks.NewCall.{NewCall}
use Rattle.room_types.specs.declared.asks.Press.{Press}
use Rattle.room_types.specs.declared.asks.Who.{Who}
use Rattle.room_types.specs.declared.asks.Who.TheVariants.{Crew, Desk, Position}
use Rattle.room_types.specs.declared.changes.Change.TheVariants.{DropAssignment, PutIncident}
use Rattle.room_types.specs.declared.changes.Change.TheVariants.{PutReport, PutVehicle}
use Rattle.room_types.specs.declared.codes.Button.{Button}
use Rattle.room_types.specs.declared.codes.Button.TheVariants as button
use Rattle.room_types.specs.declared.codes.Outcome.{Outcome}
use Rattle.room_types.specs.declared.codes.Outcome.TheVariants.{Late, Normal, Skipped, Stale, Wrong}
use Rattle.room_types.specs.declared.codes.Status.{Status}
use Rattle.room_types.specs.declared.codes.Status.TheVariants.{Offered, Returning}
use Rattle.room_types.specs.declared.refusal_statuses.Refusal.{Refusal}
use Rattle.room_types.specs.declared.refusal_statuses.Refusal.TheVariants as refusal
use Rattle.room_types.specs.declared.tables.Call.{Call}
use Rattle.room_types.specs.declared.tables.Division.{Division}
use Rattle.room_types.specs.declared.tables.Incident.{Incident}
use Rattle.room_types.specs.declared.tables.Loan.{Loan}
use Rattle.room_types.specs.declared.tables.Offer.{Offer}
use Rattle.room_types.specs.declared.tables.Report.{Report}
use Rattle.room_types.specs.declared.tables.Turn.{Turn}
use Rattle.room_types.specs.declared.tables.Vehicle.{Vehicle}
use Rattle.room_model.proofs.DecisionLaws.{by_refuse}
use Rattle.room_model.proofs.KeptIncidents.{incident_there}
use Rattle.room_model.proofs.KeptLoans.{keep_either}
use Rattle.room_model.proofs.OpenTurns.{is_open_of, open_there, row_there}
use Rattle.room_model.proofs.Others.{IsHeld, held_is, keep_some}
use Rattle.room_model.proofs.Questions.{by_quiet}
use Rattle.room_model.proofs.Tests.{among_filter, both_true, first_among, left_true, or_left}
use Rattle.room_model.proofs.Tests.{right_true, row_among, row_key}
use Rattle.room_model.proofs.VehicleChanges.{is_true}
use Rattle.room_model.specs.Calls.{call_in, call_kept, call_somewhere, call_taken, new_call}
use Rattle.room_model.specs.Decisions.{Verdict, answer_of, changes_of, refuse_if, where_active}
use Rattle.room_model.specs.Decisions.{where_held}
use Rattle.room_model.specs.Events.{by_crew, by_desk, by_position}
use Rattle.room_model.specs.Incidents.{change_needs, close, close_active, merge, merge_of}
use Rattle.room_model.specs.Incidents.{moved_call, needs_changed}
use Rattle.room_model.specs.Loans.{accept, accepted, decline, declined, give_back, given_back, lend}
use Rattle.room_model.specs.Loans.{lender_of, offered, recall, recall_lent, withdraw, withdrawn}
use Rattle.room_model.specs.Queries.{borrowed, has_post, held, incident_of, is_attended}
use Rattle.room_model.specs.Queries.{is_candidate, is_nearer, kept_call, kept_report, last_number}
use Rattle.room_model.specs.Queries.{lent, link_target, loan_at, offered_by, offered_to, open_turn}
use Rattle.room_model.specs.Queries.{point_of, report_of, served, vehicle_at}
use Rattle.room_model.specs.Queue.{clear, clear_found}
use Rattle.room_model.specs.Reports.{back_changes, drop_changes, ends_turn, is_due, is_home}
use Rattle.room_model.specs.Reports.{report_acts, report_row, outcome_of, report_held, report_in}
use Rattle.room_model.specs.Reports.{report_kept, report_made, report_somewhere, status_after}
use Rattle.room_model.specs.Reports.{turn_after, turn_changes, with_report}
use Rattle.room_model.specs.Room.{Room}
use Rattle.room_model.specs.RoomAgreements.{IsGiven, IsWellFormed, LoanAgrees, NumberAgrees}
use Rattle.room_model.specs.Step.{answer_to, decided, desk_asks, position_asks, who_asks}
use Rattle.room_model.specs.Vehicles.{duty, mobilise, mobilise_held, mobilised, off, off_duty}
use Rattle.room_model.specs.Vehicles.{on_duty, stand_down, stand_down_held, standby, standby_at}
use Rattle.room_model.specs.Vehicles.{stands_by, turn_stood_down}
use Rattle.room_laws.proofs.Effects.{Effect, Effects, EndsBy, IncidentStep, TurnGoesOn, TurnStep}
use Rattle.room_laws.proofs.Effects.{VehicleStep, by_any, by_own, class_left, class_right}
use Rattle.room_laws.proofs.Effects.{effects_join, free_still, idle_still, incident_in, is_loan_of}
use Rattle.room_laws.proofs.Effects.{is_offer_of, no_next, off_still, off_unfree, offered_still}
use Rattle.room_laws.proofs.Effects.{offered_unfree, posted_free, same_self, turn_at, vehicle_in}
use Rattle.room_laws.proofs.Steps.{IsSingle, is_single}
use Rattle.room_laws.specs.Exceptions.{Concern, OutOfTurn, Overdue, ShiftOver, LateForScene}
use Rattle.room_laws.specs.Exceptions.{Unanswered, Uncovered, Unacknowledged, Unserved}

pub same_found : {X : Type 0} (o : Option X) (x y : X) → o ≡ Some x → o ≡ Some y → x ≡ y
same_found o x y e f = let both : Some x ≡ Some y = sym e ∙ f in cc

home_on_duty : (s : Status) → is_off s ≡ false → is_off (status_after s button.Home) ≡ false
home_on_duty Offered h = refl
home_on_duty s h = refl

-- a vehicle after a report that acts
abbrev after_press : Vehicle → Option Loan → Press → Button → Bool → Vehicle
after_press v l p b due = record (with_report v p) {
  status = status_after v.status b;
  place = p.place;
  holder = cond (is_home b && due) (lender_of v l) v.holder;
  post = cond (is_home b && due) None v.post;
}

-- ---- the effects of a row that is put, by the row that was there
module _ (Over : ℕ → Concern → Type 0) (r : Room) where
  renewed : (i x : Incident) → incident_in x.division x.number r ≡ Some i → IncidentStep Over i x
      → Effect Over r (PutIncident x)
  renewed i x there step =
      λ j found.
      subst (λ (z : Incident). IncidentStep Over z x)
      (same_found (incident_in x.division x.number r) i j there found) step

  driven : (v u : Vehicle) → vehicle_in u.callsign r ≡ Some v → VehicleStep Over v u
      → Effect Over r (PutVehicle u)
  driven v u there step = (v, there, step)

  went_on : (t x : Turn) → turn_at x.callsign x.order r ≡ Some t → t.ended ≡ None
      → TurnGoesOn Over t x → TurnStep Over r x
  went_on t x there unended step = record {
    served =
        λ k.
        inl (
          t,
          row_there numbered_cmp turn_key r.turns (x.callsign, x.order) t there,
          sym step.same.0,
          sym step.same.1,
          or_left (is_none t.ended) _ (ap is_none unended),
        );
    goes_on =
        λ u found still.
        subst (λ (z : Turn). TurnGoesOn Over z x) (same_found (turn_at x.callsign x.order r) t u there found) step;
  }

  -- what a report's button ends
  record Presses (c : Callsign) (b : Button) (due : Bool) : Type 0 where
    read : not (same_button b button.Position) ≡ true → (d n : ℕ) → Over d (Unacknowledged n c)
    left : not (same_button b button.Position || same_button b button.Mobile) ≡ true → (d n : ℕ)
        → Over d (LateForScene n c)
    back : is_home b && due ≡ true → (d n : ℕ) → Over d (Overdue n c)
    back_shift : is_home b && due ≡ true → (d : ℕ) → Over d (ShiftOver c)

  pressed : (b : Button) (due : Bool) (at : ℕ) (t : Turn) → Presses t.callsign b due
      → turn_at t.callsign t.order r ≡ Some t → t.ended ≡ None → TurnStep Over r (turn_after b at t)
  pressed button.Position due at t p there unended = went_on t _ there unended
      (record { same = (refl, refl, refl); read = inl (unended, refl); way = inl unended })
  pressed button.Mobile due at t p there unended = went_on t _ there unended
      (record { same = (refl, refl, refl); read = inr (p.read refl _ _); way = inl unended })
  pressed button.Scene due at t p there unended = went_on t _ there unended
      (record { same = (refl, refl, refl); read = inr (p.read refl _ _); way = inl unended })
  pressed button.Leave due at t p there unended = went_on t _ there unended
      (record { same = (refl, refl, refl); read = inr (p.read refl _ _); way = inl unended })
  pressed button.Hospital due at t p there unended = went_on t _ there unended
      (record { same = (refl, refl, refl); read = inr (p.read refl _ _); way = inl unended })
  pressed button.Return due at t p there unended = went_on t _ there unended
      (record { same = (refl, refl, refl); read = inr (p.read refl _ _); way = inr (p.left refl _ _) })
  pressed button.Home due at t p there unended = went_on t _ there unended
      (record { same = (refl, refl, refl); read = inr (p.read refl _ _); way = inr (p.left refl _ _) })

  reported : (v : Vehicle) (l : Option Loan) (p : Press) (b : Button) (due : Bool)
      → Presses v.callsign b due → VehicleStep Over v (after_press v l p b due)
  reported v l p button.Position due q = record {
    way = λ m. inl (m, refl);
    duty = λ o. inl (o, refl, refl);
    post = λ n h. inl (h, refl, refl);
  }
  reported v l p button.Mobile due q = record {
    way = λ m. inl (m, refl);
    duty = λ o. inl (o, refl, refl);
    post = λ n h. inl (h, refl, refl);
  }
  reported v l p button.Home true q = record {
    way = λ m. inr (λ n. (q.read refl _ n, q.left refl _ n));
    duty = λ o. inr (q.back_shift refl _);
    post = λ n h. cc;
  }
  reported v l p button.Home false q = record {
    way = λ m. inr (λ n. (q.read refl _ n, q.left refl _ n));
    duty = λ o. inl (home_on_duty v.status o, refl, refl);
    post = λ n h. inl (h, refl, refl);
  }
  reported v l p b due q = record {
    way = λ m. inr (λ n. (q.read refl _ n, q.left refl _ n));
    duty = λ o. inl (refl, refl, refl);
    post = λ n h. inl (h, refl, refl);
  }

-- ---- decisions
module _ (r : Room) (w : IsWellFormed r) where
  abbrev Holds : Event → Verdict → Type 0
  Holds e x = Effects (EndsBy e r (answer_of x)) r (changes_of x)

  refuse : (e : Event) (b : Bool) (why : Refusal) (x : Verdict) → (b ≡ false → Holds e x)
      → Holds e (refuse_if b why x)
  refuse e b why x f = by_refuse (Holds e) b why x tt f

  by_held : (e : Event) (d : ℕ) (c : Callsign) (l : Option Loan) (f : Vehicle → Verdict)
      → ((v : Vehicle) → IsHeld d c r v → Holds e (f v)) → Holds e (where_held (held d c r) l f)
  by_held e d c l f g =
      (elim (held d c r) as (λ (o : Option Vehicle). held d c r ≡ o → Holds e (where_held o l f)) [
        | None ↦ λ h. tt
        | Some v ↦ λ h. g v (held_is d c r v h)
      ]) refl

  by_active : (e : Event) (d n : ℕ) (f : Incident → Verdict)
      → ((i : Incident) → incident_in i.division i.number r ≡ Some i → d ≡ i.division
      → n ≡ i.number → Holds e (f i)) → Holds e (where_active (incident_of d n r) f)
  by_active e d n f g =
      (elim (incident_of d n r) as (λ (o : Option Incident). incident_of d n r ≡ o → Holds e (where_active o f)) [
        | None ↦ λ h. tt
        | Some i ↦
            λ h.
            let is = incident_there d r w n i h in
            refuse e (not (is_active i.state)) refusal.IncidentNotOpen (f i) (λ active. g i is.0 is.1 is.2)
      ]) refl

  -- ---- incidents
  sends : (d n : ℕ) (c : Callsign) (at : ℕ) → Holds (by_desk d (ask.Mobilise n c) at) (mobilise d n c at r)
  unfolding mobilise
  sends d n c at =
      let e = by_desk d (ask.Mobilise n c) at in
      by_active e d n (mobilise_held d (held d c r) (lent d c r) at (λ k. served d n k r)) (λ i there own same.
      by_held e d c (lent d c r) (mobilised d i at (λ k. served d n k r)) (λ v is.
      refuse e _ _ _ (λ free. refuse e _ _ _ (λ later. refuse e _ _ _ (λ needed. refuse e _ _ _ (λ left. (
        renewed _ r i _ there (record { opened = omega arith; active = λ a. inl a; class = inr (omega arith) }),
        (
          driven _ r v _ is.there (record {
            way = λ m. absurd (free_still v.status (is_true _ free) m);
            duty = λ o. inl (refl, refl, refl);
            post = λ k h. cc;
          }),
          (
            record {
              served = λ k. inr (by_own d d (ask.Mobilise n c) (Unserved i.number) refl (eq-eqb n i.number same));
              goes_on = λ t found unended. absurd (no_next r w v.callsign v t is.there found);
            },
            (tt, tt),
          ),
        ),
      )))))))

  needed : (d n : ℕ) (at : ℕ) → (needs : _) → Holds (by_desk d (ask.Needs n needs) at) (change_needs d n needs r)
  unfolding change_needs
  needed d n at needs =
      let e = by_desk d (ask.Needs n needs) at in
      by_active e d n (needs_changed needs (λ k. served d n k r)) (λ i there own same. refuse e _ _ _ (λ enough. (
        renewed _ r i _ there (record { opened = omega arith; active = λ a. inl a; class = inr (omega arith) }),
        tt,
      )))

  closes : (d n at : ℕ) → Holds (by_desk d (ask.Close n) at) (close d n r)
  unfolding close
  closes d n at =
      let e = by_desk d (ask.Close n) at in
      by_active e d n (close_active (is_attended d n r)) (λ i there own same. refuse e _ _ _ (λ quiet. (
        renewed _ r i _ there (record {
          opened = omega arith;
          active = λ a. inr (by_own d i.division (ask.Close n) (Unserved i.number) own (eq-eqb n i.number same));
          class = inr (omega arith);
        }),
        tt,
      )))

  moves : (Over : ℕ → Concern → Type 0) (m : ℕ) (cs : List Call) → Effects Over r (map (moved_call m) cs)
  moves Over m [] = tt
  moves Over m (c ∷ cs) = (tt, moves Over m cs)

  merged_in : (d n m at : ℕ) (i j : Option Incident) (b : Bool) (cs : List Call) → incident_of d n r ≡ i
      → incident_of d m r ≡ j → Holds (by_desk d (ask.Merge n m) at) (merge_of i j b cs)
  merged_in d n m at None j b cs f g = tt
  merged_in d n m at (Some i) None b cs f g = tt
  merged_in d n m at (Some i) (Some j) b cs f g =
      let e = by_desk d (ask.Merge n m) at in
      let from = incident_there d r w n i f in
      let into = incident_there d r w m j g in
      refuse e _ _ _ (λ other. refuse e _ _ _ (λ active. refuse e _ _ _ (λ unended. refuse e _ _ _ (λ quiet. (
        renewed _ r j _ into.0 (record {
          opened = omega arith;
          active = λ a. inl a;
          class = class_right i.class j.class;
        }),
        (
          renewed _ r i _ from.0 (record {
            opened = omega arith;
            active =
                λ a. inr (by_own d i.division (ask.Merge n m) (Unserved i.number) from.1 (eq-eqb n i.number from.2));
            class = inr (omega arith);
          }),
          moves _ j.number cs,
        ),
      )))))

  merges : (d n m at : ℕ) → Holds (by_desk d (ask.Merge n m) at) (merge d n m r)
  unfolding merge
  merges d n m at = merged_in d n m at (incident_of d n r) (incident_of d m r) _ _ refl refl

  -- ---- vehicles
  pub open_own : (d : ℕ) (c : Callsign) (t : Turn) → open_turn d c r ≡ Some t → t.division ≡ d
  unfolding open_turn
  open_own d c t e =
      let f = among_filter (is_open_of d c) r.turns t (first_among (filter (is_open_of d c) r.turns) t e) in
      eqb-true t.division d (left_true (t.division == d) _ f.1)

  stood : (Over : ℕ → Concern → Type 0) (d : ℕ) (c : Callsign) (at : ℕ) (o : Option Turn)
      → ((n : ℕ) → Over d (Unacknowledged n c) × Over d (LateForScene n c))
      → open_turn d c r ≡ o → Effects Over r (turn_stood_down at o)
  stood Over d c at None over e = tt
  stood Over d c at (Some t) over e =
      let is = open_there d c r w.order t e in
      let key = is.2 in
      let own = open_own d c t e in (
        went_on Over r t (record t { ended = Some at; stood_down = true })
            (subst (λ (k : Callsign). turn_at k t.order r ≡ Some t) (sym key) is.0) is.1 (record {
              same = (refl, refl, refl);
              read =
                  inr (subst (λ (k : Callsign). Over t.division (Unacknowledged t.incident k)) (sym key)
                  (subst (λ (h : ℕ). Over h (Unacknowledged t.incident c)) (sym own) (over t.incident).0));
              way =
                  inr (subst (λ (k : Callsign). Over t.division (LateForScene t.incident k)) (sym key)
                  (subst (λ (h : ℕ). Over h (LateForScene t.incident c)) (sym own) (over t.incident).1));
            }),
        tt,
      )

  stands_down : (d : ℕ) (c : Callsign) (at : ℕ) → Holds (by_desk d (ask.StandDown c) at) (stand_down d c at r)
  unfolding stand_down
  stands_down d c at =
      let e = by_desk d (ask.StandDown c) at in
      by_held e d c (lent d c r) (stand_down_held at (open_turn d c r)) (λ v is. refuse e _ _ _ (λ mobilised.
      effects_join _ r (turn_stood_down at (open_turn d c r))
      (DropAssignment v.callsign ∷ PutVehicle (record v { status = Returning }) ∷ [])
      (stood _ d c at (open_turn d c r) (λ n. (
        by_own d d (ask.StandDown c) (Unacknowledged n c) refl (same_self c c refl),
        by_own d d (ask.StandDown c) (LateForScene n c) refl (same_self c c refl),
      )) refl) (
        tt,
        (
          driven _ r v _ is.there (record {
            way = λ m. inr (λ n. (
              by_own d v.holder (ask.StandDown c) (Unacknowledged n v.callsign) (sym is.holder)
                  (same_self c v.callsign is.key),
              by_own d v.holder (ask.StandDown c) (LateForScene n v.callsign) (sym is.holder)
                  (same_self c v.callsign is.key),
            ));
            duty = λ o. inl (refl, refl, refl);
            post = λ n h. inl (h, refl, refl);
          }),
          tt,
        ),
      )))

  stood_by : (d : ℕ) (c : Callsign) (p : Option ℕ) (at : ℕ) (v : Vehicle) → IsHeld d c r v
      → is_free v.status ≡ true → (q : Option ℕ) → p ≡ q → (has : ℕ → Bool)
      → Holds (by_desk d (ask.Standby c p) at) (standby_at q has at v)
  stood_by d c p at v is free None same has = (
    driven _ r v _ is.there (record {
      way = λ m. absurd (free_still v.status free m);
      duty = λ o. inl (o, refl, refl);
      post = λ n h. cc;
    }),
    tt,
  )
  stood_by d c p at v is free (Some k) same has =
      let e = by_desk d (ask.Standby c p) at in
      refuse e _ _ _ (λ later. refuse e _ _ _ (λ there. (
        driven _ r v _ is.there (record {
          way = λ m. absurd (free_still v.status free m);
          duty = λ o. inl (o, refl, refl);
          post =
              λ n h.
              inr (by_own d v.holder (ask.Standby c p) (Uncovered n) (sym is.holder) (ap (has_post n) same ∙ h), free);
        }),
        tt,
      )))

  stands : (d : ℕ) (c : Callsign) (p : Option ℕ) (at : ℕ)
      → Holds (by_desk d (ask.Standby c p) at) (standby d c p at r)
  unfolding standby
  stands d c p at =
      let e = by_desk d (ask.Standby c p) at in
      by_held e d c (lent d c r) (stands_by p (λ n. is_some (point_of d n r)) at)
      (λ v is. refuse e _ _ _ (λ free. stood_by d c p at v is (is_true _ free) p refl _))

  begins : (d : ℕ) (c : Callsign) (place : Place) (until at : ℕ)
      → Holds (by_desk d (ask.Duty c place until) at) (duty d c place until at r)
  unfolding duty
  begins d c place until at =
      let e = by_desk d (ask.Duty c place until) at in
      by_held e d c (lent d c r) (on_duty place until at) (λ v is. refuse e _ _ _ (λ off. refuse e _ _ _ (λ later. (
        driven _ r v _ is.there (record {
          way = λ m. absurd (off_still v.status (is_true _ off) m);
          duty = λ o. let was = is_true _ off in cc;
          post = λ n h. absurd (off_unfree v.status (is_true _ off) (posted_free r w v.callsign v is.there n h));
        }),
        tt,
      ))))

  goes_off : (d : ℕ) (c : Callsign) (at : ℕ) → Holds (by_desk d (ask.Off c) at) (off d c r)
  unfolding off
  goes_off d c at =
      let e = by_desk d (ask.Off c) at in
      by_held e d c (lent d c r) off_duty (λ v is. refuse e _ _ _ (λ idle. refuse e _ _ _ (λ free. (
        driven _ r v _ is.there (record {
          way = λ m. absurd (idle_still v.status idle m);
          duty =
              λ o.
              inr
              (by_own d v.holder (ask.Off c) (ShiftOver v.callsign) (sym is.holder) (same_self c v.callsign is.key));
          post = λ n h. cc;
        }),
        tt,
      ))))

  -- ---- offers and loans
  offers : (d : ℕ) (c : Callsign) (to until at : ℕ)
      → Holds (by_desk d (ask.Lend c to until) at) (lend d c to until at r)
  unfolding lend
  offers d c to until at =
      let e = by_desk d (ask.Lend c to until) at in
      by_held e d c (lent d c r) (offered r.plan d to until at) (λ v is.
      refuse e _ _ _
      (λ other. refuse e _ _ _ (λ home. refuse e _ _ _ (λ idle. refuse e _ _ _ (λ free. refuse e _ _ _ (λ later. (
        driven _ r v _ is.there (record {
          way = λ m. absurd (idle_still v.status idle m);
          duty = λ o. inl (refl, refl, refl);
          post = λ n h. cc;
        }),
        (λ o found. offered_unfree v.status (is_offer_of r w v.callsign v o is.there found).0 (is_true _ free), tt),
      )))))))

  withdrawn_offer : (d : ℕ) (c : Callsign) (at : ℕ) (v : Vehicle) → IsHeld d c r v → (o : Option Offer)
      → offered_by d c r ≡ o → Holds (by_desk d (ask.Withdraw c) at) (withdrawn o v)
  unfolding offered_by
  withdrawn_offer d c at v is None f = tt
  withdrawn_offer d c at v is (Some o) f =
      let there = (keep_some (λ o. o.lender == d) (row_at callsign_cmp offer_key r.offers c) o f).0 in
      let known = is_offer_of r w v.callsign v o is.there
      (subst (λ (k : Callsign). row_at callsign_cmp offer_key r.offers k ≡ Some o) is.key there) in (
        driven _ r v _ is.there (record {
          way = λ m. absurd (offered_still v.status known.0 m);
          duty = λ o. inl (refl, refl, refl);
          post = λ n h. inl (h, refl, refl);
        }),
        (λ h n. by_any d h (ask.Withdraw c) (Unanswered n v.callsign) (same_self c v.callsign is.key), tt),
      )

  withdraws : (d : ℕ) (c : Callsign) (at : ℕ) → Holds (by_desk d (ask.Withdraw c) at) (withdraw d c r)
  unfolding withdraw
  withdraws d c at =
      by_held (by_desk d (ask.Withdraw c) at) d c (lent d c r) (withdrawn (offered_by d c r))
      (λ v is. withdrawn_offer d c at v is (offered_by d c r) refl)

  offered_there : (d : ℕ) (c : Callsign) (o : Offer) → offered_to d c r ≡ Some o
      → (row_at callsign_cmp offer_key r.offers o.callsign ≡ Some o) × (c ≡ o.callsign)
  unfolding offered_to
  offered_there d c o f =
      let there = (keep_some (λ o. o.borrower == d) (row_at callsign_cmp offer_key r.offers c) o f).0 in
      let key : c ≡ o.callsign = row_key callsign_cmp offer_key callsigns_total exact_callsigns r.offers c o there in
      (subst (λ (k : Callsign). row_at callsign_cmp offer_key r.offers k ≡ Some o) key there, key)

  declined_offer : (d : ℕ) (c : Callsign) (at : ℕ) (o : Option Offer) → offered_to d c r ≡ o
      → Holds (by_desk d (ask.Decline c) at) (declined o)
  declined_offer d c at None f = tt
  declined_offer d c at (Some o) f =
      let is = offered_there d c o f in (
        λ v found. let known = is_offer_of r w o.callsign v o found is.0 in (known.0, inl known.1),
        (
          λ h n.
              by_any d h (ask.Decline c) (Unanswered n o.callsign) (same_self c o.callsign is.1),
          tt,
        ),
      )

  declines : (d : ℕ) (c : Callsign) (at : ℕ) → Holds (by_desk d (ask.Decline c) at) (decline d c r)
  unfolding decline
  declines d c at = declined_offer d c at (offered_to d c r) refl

  accepted_offer : (d : ℕ) (c : Callsign) (at : ℕ) (o : Option Offer) → offered_to d c r ≡ o
      → Holds (by_desk d (ask.Accept c) at) (accepted o at)
  accepted_offer d c at None f = tt
  accepted_offer d c at (Some o) f =
      let is = offered_there d c o f in (
        λ v found.
            let known = is_offer_of r w o.callsign v o found is.0 in (
              known.0,
              inr (λ h. by_any d h (ask.Accept c) (ShiftOver o.callsign) (same_self c o.callsign is.1)),
            ),
        (
          λ h n.
              by_any d h (ask.Accept c) (Unanswered n o.callsign) (same_self c o.callsign is.1),
          (λ l found. absurd (unlent o is.0 l found (vehicle_in o.callsign r) refl), tt),
        ),
      )
    where
      -- a vehicle that is offered is not lent
      unlent : (o : Offer) → row_at callsign_cmp offer_key r.offers o.callsign ≡ Some o → (l : Loan)
          → row_at callsign_cmp loan_key r.loans o.callsign ≡ Some l → (v : Option Vehicle)
          → vehicle_in o.callsign r ≡ v → ⊥
      unlent o there l found (Some v) e =
          let lent = is_loan_of r w o.callsign v l e found in
          let known = is_offer_of r w o.callsign v o e there in
          lent.2 (sym known.1 ∙ known.2)
      unlent o there l found None e =
          let h = w.loans o.callsign in
          absurd (subst (λ (x : Option Loan). LoanAgrees None x) found
          (subst (λ (x : Option Vehicle). LoanAgrees x (row_at callsign_cmp loan_key r.loans o.callsign)) e h))

  accepts : (d : ℕ) (c : Callsign) (at : ℕ) → Holds (by_desk d (ask.Accept c) at) (accept d c at r)
  unfolding accept
  accepts d c at = accepted_offer d c at (offered_to d c r) refl

  recalled_loan : (d : ℕ) (c : Callsign) (at : ℕ) (l : Option Loan) (v : Option Vehicle) → lent d c r ≡ l
      → Holds (by_desk d (ask.Recall c) at) (recall_lent l v)
  unfolding lent
  recalled_loan d c at None None e = tt
  recalled_loan d c at None (Some v) e = tt
  recalled_loan d c at (Some l) v e =
      let there = (keep_some (λ l. l.lender == d) (row_at callsign_cmp loan_key r.loans c) l e).0 in
      let key : c ≡ l.callsign = row_key callsign_cmp loan_key callsigns_total exact_callsigns r.loans c l there in (
        λ k found.
            let same = same_found (row_at callsign_cmp loan_key r.loans l.callsign) l k
            (subst (λ (k : Callsign). row_at callsign_cmp loan_key r.loans k ≡ Some l) key there) found in
            (ap (λ (z : Loan). z.lender) same, ap (λ (z : Loan). z.borrower) same, ap (λ (z : Loan). z.until) same),
        tt,
      )

  recalls : (d : ℕ) (c : Callsign) (at : ℕ) → Holds (by_desk d (ask.Recall c) at) (recall d c r)
  unfolding recall
  recalls d c at = recalled_loan d c at (lent d c r) (held d c r) refl

  gives_back : (d : ℕ) (c : Callsign) (at : ℕ) → Holds (by_desk d (ask.GiveBack c) at) (give_back d c r)
  unfolding give_back
  gives_back d c at =
      let e = by_desk d (ask.GiveBack c) at in
      by_held e d c (lent d c r) (given_back d (borrowed d c r))
      (λ v is. refuse e _ _ _ (λ away. refuse e _ _ _ (λ idle. (
        driven _ r v _ is.there (record {
          way = λ m. absurd (idle_still v.status idle m);
          duty =
              λ o.
              inr (by_own d v.holder (ask.GiveBack c) (ShiftOver v.callsign) (sym is.holder)
              (same_self c v.callsign is.key));
          post = λ n h. cc;
        }),
        (λ h n. by_any d h (ask.GiveBack c) (Overdue n v.callsign) (same_self c v.callsign is.key), tt),
      ))))

  -- ---- reports that are cleared, and points
  cleared_report : (d : ℕ) (c : Callsign) (n at : ℕ) (o : Option Report) → report_of d c n r ≡ o
      → Holds (by_desk d (ask.Clear c n) at) (clear_found o)
  unfolding report_of
  cleared_report d c n at None e = tt
  cleared_report d c n at (Some x) e =
      let parts = keep_some (λ (z : Report). z.division == d) (row_at numbered_cmp report_key r.reports (c, n)) x e in
      let key : (c, n)
      ≡ (x.callsign, x.number) = row_key numbered_cmp report_key numbered_total exact_numbered r.reports (c, n) x
      parts.0 in
      refuse (by_desk d (ask.Clear c n) at) _ _ _ (λ unended. (
        λ y found.
            let same = same_found (row_at numbered_cmp report_key r.reports (x.callsign, x.number)) x y
            (subst (λ (k : Callsign × ℕ). row_at numbered_cmp report_key r.reports k ≡ Some x) key parts.0) found in
            by_own d y.division (ask.Clear c n) (OutOfTurn x.number x.callsign)
            (sym (eqb-true x.division d parts.1) ∙ ap (λ (z : Report). z.division) same)
            (both_true _ _ (same_self c x.callsign (ap (λ (k : Callsign × ℕ). k.0) key))
            (eq-eqb n x.number (ap (λ (k : Callsign × ℕ). k.1) key))),
        tt,
      ))

  clears : (d : ℕ) (c : Callsign) (n at : ℕ) → Holds (by_desk d (ask.Clear c n) at) (clear d c n r)
  unfolding clear
  clears d c n at = cleared_report d c n at (report_of d c n r) refl

  desk_effects : (d : ℕ) (a : Ask) (at : ℕ) → is_single (Desk d) a ≡ true
      → Holds (by_desk d a at) (desk_asks d a at r)
  desk_effects d (ask.Mobilise n c) at h = sends d n c at
  desk_effects d (ask.Needs n needs) at h = needed d n at needs
  desk_effects d (ask.Merge n m) at h = merges d n m at
  desk_effects d (ask.Close n) at h = closes d n at
  desk_effects d (ask.Moves ms) at h = cc
  desk_effects d (ask.StandDown c) at h = stands_down d c at
  desk_effects d (ask.Standby c p) at h = stands d c p at
  desk_effects d (ask.Duty c place until) at h = begins d c place until at
  desk_effects d (ask.Off c) at h = goes_off d c at
  desk_effects d (ask.Lend c to until) at h = offers d c to until at
  desk_effects d (ask.Withdraw c) at h = withdraws d c at
  desk_effects d (ask.Decline c) at h = declines d c at
  desk_effects d (ask.Accept c) at h = accepts d c at
  desk_effects d (ask.Recall c) at h = recalls d c at
  desk_effects d (ask.GiveBack c) at h = gives_back d c at
  desk_effects d (ask.Clear c n) at h = clears d c n at
  desk_effects d (ask.SetPoint n place cover) at h =
      (by_own d d (ask.SetPoint n place cover) (Uncovered n) refl (eq-eqb n n refl), tt)
  desk_effects d a at h =
      by_quiet at r (Effects (EndsBy (by_desk d a at) r (answer_of (desk_asks d a at r))) r) (Desk d) a refl tt

  -- ---- calls
  least_among : {X : Type 0} (lt : X → X → Bool) (o : Option X) (xs : List X) (x : X)
      → least_from lt o xs ≡ Some x → (o ≡ Some x) ⊎ Among x xs
  least_among lt o [] x e = inl e
  least_among lt None (y ∷ ys) x e = elim (least_among lt (Some y) ys x e) [
    | inl f ↦ let same : x ≡ y = cc in inr (inl same)
    | inr a ↦ inr (inr a)
  ]
  least_among {X} lt (Some z) (y ∷ ys) x e =
      (elim (lt y z) as (λ (b : Bool).
      least_from lt (cond b (Some y) (Some z)) ys ≡ Some x → (Some z ≡ Some x) ⊎ Among x (y ∷ ys)) [
        | true ↦ λ f. elim (least_among lt (Some y) ys x f) [
          | inl g ↦ let same : x ≡ y = cc in inr (inl same)
          | inr a ↦ inr (inr a)
        ]
        | false ↦ λ f. elim (least_among lt (Some z) ys x f) [
          | inl g ↦ inl g
          | inr a ↦ inr (inr a)
        ]
      ]) e

  link_there : (d : ℕ) (p : Place) (at : ℕ) (i : Incident) → link_target d p at r ≡ Some i
      → incident_in i.division i.number r ≡ Some i
  unfolding link_target
  link_there d p at i e = elim (least_among (is_nearer p) None (filter (is_candidate d p at) r.incidents) i e) [
    | inl f ↦ cc
    | inr a ↦
        row_among pair_cmp incident_key pairs_total r.incidents i w.order.incidents
        (among_filter (is_candidate d p at) r.incidents i a).0
  ]

  -- a number that is not given is no incident's
  no_number : (d : ℕ) (v : Division) (i : Incident) → last_number d r ≡ Some v
      → incident_in d (v.last_incident + 1) r ≡ Some i → ⊥
  unfolding last_number
  no_number d v i last found =
      let key = row_key pair_cmp incident_key pairs_total exact_pair r.incidents (d, v.last_incident + 1) i found in
      let own : d ≡ i.division = ap (λ (k : ℕ × ℕ). k.0) key in
      let number : v.last_incident + 1 ≡ i.number = ap (λ (k : ℕ × ℕ). k.1) key in
      let given : NumberAgrees r (Some i) = subst (NumberAgrees r) found (w.numbers d (v.last_incident + 1)) in
      let known : IsGiven i.number (Some v) = subst (IsGiven i.number)
      (ap (row_at nat_cmp division_key r.divisions) (sym own) ∙ last) given.1 in
      omega (arith, number, known)

  call_takes : (e : Event) (d : ℕ) (new : NewCall) (i : Option Incident) (v : Option Division)
      → link_target d new.place new.at r ≡ i → last_number d r ≡ v → Holds e (call_taken d new i v)
  call_takes e d new (Some i) v f g = (
    renewed _ r i _ (link_there d new.place new.at i f) (record {
      opened = omega arith;
      active = λ a. inl a;
      class = class_left i.class new.class;
    }),
    (tt, tt),
  )
  call_takes e d new None None f g = tt
  call_takes e d new None (Some v) f g =
      refuse e _ _ _ (λ left. (tt, ((λ i found. absurd (no_number d v i g found)), (tt, tt))))

  call_places : (e : Event) (d : Option ℕ) (new : NewCall) → Holds e (call_somewhere d new r)
  unfolding call_in
  call_places e None new = tt
  call_places e (Some d) new = call_takes e d new (link_target d new.place new.at r) (last_number d r) refl refl

  call_keeps : (e : Event) (k : Option Call) (new : NewCall) → Holds e (call_kept k new r)
  call_keeps e (Some k) new = refuse e _ _ _ (λ same. tt)
  call_keeps e None new = call_places e (division_of r.plan new.place) new

  position_effects : (p : ℕ) (a : Ask) (at : ℕ) → Holds (by_position p a at) (position_asks p a at r)
  position_effects p (ask.Call f) at =
      call_keeps (by_position p (ask.Call f) at) (kept_call p f.serial r) (new_call p f at)
  position_effects p a at =
      by_quiet at r (Effects (EndsBy (by_position p a at) r (answer_of (position_asks p a at r))) r) (Position p) a refl
      tt

  -- ---- reports
  turns_pressed : (Over : ℕ → Concern → Type 0) (h : ℕ) (c : Callsign) (b : Button) (due : Bool) (at : ℕ)
      (o : Option Turn) → Presses Over r c b due → open_turn h c r ≡ o → Effects Over r (turn_changes b at o)
  turns_pressed Over h c b due at None q e = tt
  turns_pressed Over h c b due at (Some t) q e =
      let is = open_there h c r w.order t e in (
        pressed Over r b due at t (subst (λ (k : Callsign). Presses Over r k b due) (sym is.2) q)
            (subst (λ (k : Callsign). turn_at k t.order r ≡ Some t) (sym is.2) is.0) is.1,
        tt,
      )

  drops : (Over : ℕ → Concern → Type 0) (c : Callsign) (b : Bool) → Effects Over r (drop_changes c b)
  drops Over c true = (tt, tt)
  drops Over c false = tt

  backs : (Over : ℕ → Concern → Type 0) (c : Callsign) (b : Button) (due back : Bool) → Presses Over r c b due
      → back ≡ is_home b && due → Effects Over r (back_changes c back)
  backs Over c b due true q e = (λ d n. q.back (sym e) d n, tt)
  backs Over c b due false q e = tt

  -- a loan that is due to its borrower is due
  lent_due : (h : ℕ) (c : Callsign) (at : ℕ) → is_due at (borrowed h c r) ≡ true
      → is_due at (loan_at c r) ≡ true
  unfolding borrowed loan_at
  lent_due h c at e =
      elim (keep_either (λ (l : Loan). l.borrower == h) (row_at callsign_cmp loan_key r.loans c)) [
        | inl none ↦ let never = ap (is_due at) (sym none) ∙ e in cc
        | inr same ↦ ap (is_due at) (sym same) ∙ e
      ]

  -- a report that acts ends what its button ends
  presses : (h : ℕ) (c k : Callsign) (p : Press) (at : ℕ) (o : Outcome) (s : Status) → c ≡ k
      → acts o ≡ true
      → Presses (EndsBy (by_crew c (ask.Report p) at) r (Ok (answer.Reported p.number o s))) r k p.button
      (is_due at (borrowed h c r))
  presses h c k p at o s same acted =
      let goes_back : is_home p.button && is_due at (borrowed h c r) ≡ true
      → is_home p.button && is_due at (loan_at c r) ≡ true =
      λ f. both_true _ _ (left_true (is_home p.button) _ f) (lent_due h c at (right_true (is_home p.button) _ f)) in
      record {
        read = λ f d n. both_true _ _ (both_true _ _ (same_self c k same) f) acted;
        left = λ f d n. both_true _ _ (both_true _ _ (same_self c k same) f) acted;
        back = λ f d n. both_true _ _ (both_true _ _ (same_self c k same) (goes_back f)) acted;
        back_shift = λ f d. both_true _ _ (both_true _ _ (same_self c k same) (goes_back f)) acted;
      }

  module _ (h : ℕ) (c : Callsign) (v : Vehicle) (is : IsHeld h c r v) (p : Press) (at : ℕ)
      (fresh : kept_report c p.number r ≡ None) where
    new_report : (Over : ℕ → Concern → Type 0) (o : Outcome) (s : Status)
        → Effect Over r (PutReport (report_row v p at o s))
    unfolding kept_report
    new_report Over o s =
        λ x found.
        let none : row_at numbered_cmp report_key r.reports (v.callsign, p.number)
        ≡ None = subst (λ (k : Callsign). row_at numbered_cmp report_key r.reports (k, p.number) ≡ None) is.key fresh in
        let both : None ≡ Some x = sym none ∙ found in cc

    -- one that acts, and one that does not
    acting : (o : Outcome) → acts o ≡ true
        → Effects (EndsBy (by_crew c (ask.Report p) at) r
        (Ok (answer.Reported p.number o (status_after v.status p.button)))) r
        (report_acts v (open_turn h c r) (borrowed h c r) p at o (is_home p.button && is_due at (borrowed h c r)))
    acting o acted =
        let s = status_after v.status p.button in
        let q = presses h c v.callsign p at o s is.key acted in
        let t = open_turn h c r in
        let l = borrowed h c r in (
          new_report (EndsBy (by_crew c (ask.Report p) at) r (Ok (answer.Reported p.number o s))) o s,
          effects_join _ r (turn_changes p.button at t) _
              (turns_pressed _ h c p.button (is_due at l) at t (presses h c c p at o s refl acted) refl)
              (effects_join _ r (drop_changes v.callsign (ends_turn p.button)) _
              (drops _ v.callsign (ends_turn p.button))
              (effects_join _ r (back_changes v.callsign (is_home p.button && is_due at l)) _
              (backs _ v.callsign p.button (is_due at l) _ q refl)
              (driven _ r v _ is.there (reported _ r v l p p.button (is_due at l) q), tt))),
        )

    resting : (Over : ℕ → Concern → Type 0) (o : Outcome)
        → Effects Over r (PutReport (report_row v p at o v.status) ∷ PutVehicle (with_report v p) ∷ [])
    resting Over o = (
      new_report Over o v.status,
      (
        driven Over r v (with_report v p) is.there (record {
          way = λ m. inl (m, refl);
          duty = λ f. inl (f, refl, refl);
          post = λ n f. inl (f, refl, refl);
        }),
        tt,
      ),
    )

    made : (o : Outcome)
        → Holds (by_crew c (ask.Report p) at) (report_made v (open_turn h c r) (borrowed h c r) p at o)
    made Normal = acting Normal refl
    made Skipped = acting Skipped refl
    made Wrong = resting _ Wrong
    made Late = resting _ Late
    made Stale = resting _ Stale

  report_holds : (h : ℕ) (c : Callsign) (p : Press) (at : ℕ) → kept_report c p.number r ≡ None
      → (o : Option Vehicle) → held h c r ≡ o
      → Holds (by_crew c (ask.Report p) at) (report_held o (open_turn h c r) (borrowed h c r) p at)
  report_holds h c p at fresh None e = tt
  report_holds h c p at fresh (Some v) e =
      made h c v (held_is h c r v e) p at fresh (outcome_of v (open_turn h c r) p)

  report_places : (c : Callsign) (p : Press) (at : ℕ) → kept_report c p.number r ≡ None
      → (o : Option Vehicle) → Holds (by_crew c (ask.Report p) at) (report_somewhere o c p at r)
  unfolding report_in
  report_places c p at fresh None = tt
  report_places c p at fresh (Some v) = report_holds v.holder c p at fresh (held v.holder c r) refl

  report_keeps : (c : Callsign) (p : Press) (at : ℕ) (k : Option Report) → kept_report c p.number r ≡ k
      → Holds (by_crew c (ask.Report p) at) (report_kept k c p at r)
  report_keeps c p at (Some k) e = refuse (by_crew c (ask.Report p) at) _ _ _ (λ same. tt)
  report_keeps c p at None e = report_places c p at e (vehicle_at c r)

  crew_effects : (c : Callsign) (a : Ask) (at : ℕ)
      → Holds (by_crew c a at) (who_asks (Crew c) a at r)
  crew_effects c (ask.Report p) at = report_keeps c p at (kept_report c p.number r) refl
  crew_effects c a at =
      by_quiet at r (Effects (EndsBy (by_crew c a at) r (answer_of (who_asks (Crew c) a at r))) r) (Crew c) a refl tt

pub event_effects : (e : Event) (r : Room) → IsWellFormed r → IsSingle e
    → Effects (EndsBy e r (answer_to e r)) r (changes_of (decided e r))
event_effects e r w single = by_who e.who e.ask e.at single
  where
    by_who : (who : Who) (a : Ask) (at : ℕ) → is_single who a ≡ true
        → Effects
        (EndsBy (record { who = who; ask = a; at = at }) r (answer_to (record { who = who; ask = a; at = at }) r)) r
        (changes_of (decided (record { who = who; ask = a; at = at }) r))
    by_who (Desk d) a at h = desk_effects r w d a at h
    by_who (Position p) a at h = position_effects r w p a at
    by_who (Crew c) a at h = crew_effects r w c a at
