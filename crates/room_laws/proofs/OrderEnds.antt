-- What ends an order drops it.
use Rattle.std.proofs.Common.{ap, eq-eqb, inl, inr, subst, sym, ◌∙◌}
use Rattle.std.specs.Prelude.{Bool, None, Ok, Option, Some, [], cond, false, not, refl, true, ℕ}
use Rattle.std.specs.Prelude.{◌&&◌, ◌++◌, ◌==◌, ◌∷◌, ◌≡◌}
use Rattle.room_place.specs.Choice.{Among}
use Rattle.room_types.specs.Codes.{acts, is_mobilised}
use Rattle.room_types.specs.KeyLemmas.{callsigns_total, exact_callsigns}
use Rattle.room_types.specs.KeyedRows.{drop_row, keep, row_at}
use Rattle.room_types.specs.Keys.{assignment_key, callsign_cmp, vehicle_key}
use Rattle.room_types.specs.Texts.{Callsign}
use Rattle.room_types.specs.declared.asks.Event.{Event}
use Rattle.room_types.specs.declared.asks.Press.{Press}
use Rattle.room_types.specs.declared.changes.Change.TheVariants.{DropAssignment, PutReport}
use Rattle.room_types.specs.declared.changes.Change.TheVariants.{PutVehicle}
use Rattle.room_types.specs.declared.codes.Outcome.{Outcome}
use Rattle.room_types.specs.declared.codes.Status.{Status}
use Rattle.room_types.specs.declared.codes.Status.TheVariants.{Returning}
use Rattle.room_types.specs.declared.tables.Assignment.{Assignment}
use Rattle.room_types.specs.declared.tables.Loan.{Loan}
use Rattle.room_types.specs.declared.tables.Turn.{Turn}
use Rattle.room_types.specs.declared.tables.Vehicle.{Vehicle}
use Rattle.room_model.proofs.Tests.{row_among, row_key}
use Rattle.room_model.specs.Decisions.{answer_of, changes_of, done, refuse_if, where_held}
use Rattle.room_model.specs.Decisions.{with_changes}
use Rattle.room_model.specs.Events.{by_crew, by_desk}
use Rattle.room_model.specs.Queries.{borrowed, held, kept_report, lent, open_turn, vehicle_at}
use Rattle.room_model.specs.Reports.{ends_turn, is_due, is_home, outcome_of, report_acts}
use Rattle.room_model.specs.Reports.{report_held, report_in, report_kept, report_made, report_row}
use Rattle.room_model.specs.Reports.{report_somewhere, status_after, take_report, vehicle_after}
use Rattle.room_model.specs.Reports.{with_report}
use Rattle.room_model.specs.Room.{Room, apply}
use Rattle.room_model.specs.RoomAgreements.{AssignmentAgrees, IsWellFormed}
use Rattle.room_model.specs.Step.{answer_to, room_after}
use Rattle.room_model.specs.Vehicles.{stand_down, stand_down_held, turn_stood_down}
use Rattle.room_laws.proofs.OrderSteps.{agreed, reported_after, stood_down_after}
use Rattle.room_laws.specs.Orders.{EndsOrder}
use Rattle.room_types.specs.declared.answers.Answer.TheVariants as answer
use Rattle.room_types.specs.declared.asks.Ask.TheVariants as ask
use Rattle.room_types.specs.declared.refusal_statuses.Refusal.TheVariants as refusal

-- a vehicle that is there is held by its holder
held_found : (d : ℕ) (c : Callsign) (r : Room) (v : Vehicle)
    → row_at callsign_cmp vehicle_key r.vehicles c ≡ Some v → v.holder ≡ d → held d c r ≡ Some v
unfolding held
held_found d c r v there same =
    ap (keep (λ v. v.holder == d)) there ∙ ap (λ (b : Bool). cond b (Some v) None) (eq-eqb v.holder d same)

-- a report that is answered as one that acts does
made_over : (r : Room) (v : Vehicle) (t : Option Turn) (l : Option Loan) (p : Press) (at : ℕ)
    (o outcome : Outcome) (status : Status)
    → answer_of (report_made v t l p at o) ≡ Ok (answer.Reported p.number outcome status)
    → acts outcome ≡ true → ends_turn p.button ≡ true
    → (apply r (changes_of (report_made v t l p at o))).assignments
    ≡ drop_row callsign_cmp assignment_key r.assignments v.callsign
made_over r v t l p at o outcome status answered acted ends =
    let back = is_home p.button && is_due at l in
    (elim (acts o) as (λ (b : Bool).
    acts o ≡ b
    → answer_of (cond b
    (with_changes (answer.Reported p.number o (status_after v.status p.button)) (report_acts v t l p at o back))
    (with_changes (answer.Reported p.number o v.status)
    (PutReport (report_row v p at o v.status) ∷ PutVehicle (with_report v p) ∷ [])))
    ≡ Ok (answer.Reported p.number outcome status)
    → (apply r (changes_of (cond b
    (with_changes (answer.Reported p.number o (status_after v.status p.button)) (report_acts v t l p at o back))
    (with_changes (answer.Reported p.number o v.status)
    (PutReport (report_row v p at o v.status) ∷ PutVehicle (with_report v p) ∷ []))))).assignments
    ≡ drop_row callsign_cmp assignment_key r.assignments v.callsign) [
      | true ↦ λ e f.
          reported_after r (report_row v p at o (status_after v.status p.button)) p.button at t v.callsign
          (ends_turn p.button) back (vehicle_after v l p back)
          ∙ ap (λ (b : Bool).
          cond b (drop_row callsign_cmp assignment_key r.assignments v.callsign) r.assignments) ends
      | false ↦ λ e f.
          let same : o ≡ outcome = cc in
          let clash : false ≡ true = sym e ∙ (ap acts same ∙ acted) in
          cc
    ]) refl answered

module _ (r : Room) (w : IsWellFormed r) (a : Assignment) (here : Among a r.assignments) where
  -- the vehicle of an order
  pub its_vehicle : (v : Vehicle) × (row_at callsign_cmp vehicle_key r.vehicles a.callsign ≡ Some v)
  its_vehicle = go (row_at callsign_cmp vehicle_key r.vehicles a.callsign) refl
      (subst (AssignmentAgrees (row_at callsign_cmp vehicle_key r.vehicles a.callsign))
      (row_among callsign_cmp assignment_key callsigns_total r.assignments a w.order.assignments here)
      (w.assignments a.callsign))
    where
      go : (o : Option Vehicle) → row_at callsign_cmp vehicle_key r.vehicles a.callsign ≡ o
          → AssignmentAgrees o (Some a)
          → (v : Vehicle) × (row_at callsign_cmp vehicle_key r.vehicles a.callsign ≡ Some v)
      go None e h = absurd h
      go (Some v) e h = (v, e)

  named : (v : Vehicle) → row_at callsign_cmp vehicle_key r.vehicles a.callsign ≡ Some v
      → v.callsign ≡ a.callsign
  named v there = sym (row_key callsign_cmp vehicle_key callsigns_total exact_callsigns r.vehicles a.callsign v there)

  taken_back : (at : ℕ) (v : Vehicle) → row_at callsign_cmp vehicle_key r.vehicles a.callsign ≡ Some v
      → is_mobilised v.status ≡ true
      → (room_after (by_desk a.division (ask.StandDown a.callsign) at) r).assignments
      ≡ drop_row callsign_cmp assignment_key r.assignments a.callsign
  unfolding stand_down refuse_if
  taken_back at v there on_its_way =
      let t = open_turn a.division a.callsign r in
      let l = lent a.division a.callsign r in
      ap (λ (o : Option Vehicle). (apply r (changes_of (where_held o l (stand_down_held at t)))).assignments)
      (held_found a.division a.callsign r v there (sym (agreed r w a here v there).1))
      ∙ ap (λ (b : Bool).
      (apply r (changes_of (refuse_if (not b) refusal.WrongStatus
      (done (turn_stood_down at t ++ DropAssignment v.callsign
      ∷ PutVehicle (record v { status = Returning }) ∷ []))))).assignments) on_its_way
      ∙ stood_down_after r at t v.callsign (record v { status = Returning })
      ∙ ap (drop_row callsign_cmp assignment_key r.assignments) (named v there)

  -- what a report with a new number comes to
  decided_as : (p : Press) (at : ℕ) (v : Vehicle)
      → row_at callsign_cmp vehicle_key r.vehicles a.callsign ≡ Some v
      → kept_report a.callsign p.number r ≡ None
      → take_report a.callsign p at r
      ≡ report_made v (open_turn v.holder a.callsign r) (borrowed v.holder a.callsign r) p at
      (outcome_of v (open_turn v.holder a.callsign r) p)
  unfolding report_in vehicle_at
  decided_as p at v there new =
      ap (λ o. report_kept o a.callsign p at r) new
      ∙ ap (λ o. report_somewhere o a.callsign p at r) there
      ∙ ap (λ o. report_held o (open_turn v.holder a.callsign r) (borrowed v.holder a.callsign r) p at)
      (held_found v.holder a.callsign r v there refl)

  reported_over : (at : ℕ) (p : Press) (outcome : Outcome) (status : Status)
      → kept_report a.callsign p.number r ≡ None
      → answer_of (take_report a.callsign p at r) ≡ Ok (answer.Reported p.number outcome status)
      → acts outcome ≡ true → ends_turn p.button ≡ true
      → (room_after (by_crew a.callsign (ask.Report p) at) r).assignments
      ≡ drop_row callsign_cmp assignment_key r.assignments a.callsign
  reported_over at p outcome status new answered acted ends =
      let v = its_vehicle.0 in
      let is = decided_as p at v its_vehicle.1 new in
      let t = open_turn v.holder a.callsign r in
      ap (λ x. (apply r (changes_of x)).assignments) is
      ∙ made_over r v t (borrowed v.holder a.callsign r) p at (outcome_of v t p) outcome status
      (ap answer_of (sym is) ∙ answered) acted ends
      ∙ ap (drop_row callsign_cmp assignment_key r.assignments) (named v its_vehicle.1)

  pub ended_drops : (e : Event) → EndsOrder e r a
      → (room_after e r).assignments ≡ drop_row callsign_cmp assignment_key r.assignments a.callsign
  unfolding vehicle_at
  ended_drops e (inl is) =
      ap (λ x. (room_after x r).assignments) is.asked ∙ taken_back e.at is.vehicle is.there is.on_its_way
  ended_drops e (inr is) =
      let ends : ends_turn is.press.button ≡ true = elim is.button [
        | inl home ↦ ap ends_turn home
        | inr returns ↦ ap ends_turn returns.0
      ] in
      ap (λ x. (room_after x r).assignments) is.sent
      ∙ reported_over e.at is.press is.outcome is.status is.new
      (ap (λ x. answer_to x r) (sym is.sent) ∙ is.answered) is.acted ends
