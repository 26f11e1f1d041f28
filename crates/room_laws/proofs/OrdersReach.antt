-- In a well-formed room an order reaches the crew of its vehicle, and no other.
use Rattle.std.proofs.Common.{subst, sym, ◌∙◌}
use Rattle.std.specs.Prelude.{None, Ok, Option, Some, refl, true, ℕ, ◌≡◌}
use Rattle.room_place.specs.Choice.{Among}
use Rattle.room_types.specs.Codes.{is_busy}
use Rattle.room_types.specs.KeyLemmas.{callsigns_total, exact_callsigns, numbered_total}
use Rattle.room_types.specs.KeyedRows.{row_at}
use Rattle.room_types.specs.Keys.{assignment_key, callsign_cmp, incident_key, numbered_cmp}
use Rattle.room_types.specs.Keys.{pair_cmp, turn_key, vehicle_key}
use Rattle.room_types.specs.Slices.{IsActive}
use Rattle.room_types.specs.Texts.{Callsign}
use Rattle.room_types.specs.declared.codes.Status.{Status}
use Rattle.room_types.specs.declared.tables.Assignment.{Assignment}
use Rattle.room_types.specs.declared.tables.Turn.{Turn}
use Rattle.room_types.specs.declared.tables.Vehicle.{Vehicle}
use Rattle.room_model.proofs.AssignedOnce.{of_one_order}
use Rattle.room_model.proofs.OpenTurns.{row_there}
use Rattle.room_model.proofs.StatusLaws.{status_shows_assignments, status_shows_turns}
use Rattle.room_model.proofs.Tests.{row_among, row_key}
use Rattle.room_model.specs.Decisions.{answer_of}
use Rattle.room_model.specs.Queries.{assignment_at, incident_of, vehicle_at}
use Rattle.room_model.specs.Reports.{order_of}
use Rattle.room_model.specs.Room.{Room}
use Rattle.room_model.specs.RoomAgreements.{HasOpenTurn, IsWellFormed, TurnAgrees, TurnIsActive}
use Rattle.room_laws.proofs.OrderEnds.{its_vehicle}
use Rattle.room_laws.proofs.OrderSteps.{agreed}
use Rattle.room_laws.specs.Orders.{GetsOrder, IsRecordOf, ReachTheirCrews}
use Rattle.room_types.specs.declared.answers.Answer.TheVariants as answer

module _ (r : Room) (w : IsWellFormed r) where
  pub to_crew : (a : Assignment) (at : ℕ) → Among a r.assignments → GetsOrder r a.callsign at a
  unfolding vehicle_at assignment_at
  to_crew a at here =
      let v = its_vehicle r w a here in
      let order = row_among callsign_cmp assignment_key callsigns_total r.assignments a w.order.assignments here in
      (v.0.post, v.0.status, λ i. answer_of (order_of (v.1 i) (order i)))

  shown : (c : Callsign) (a : Assignment) (post : Option ℕ) (status : Status) (v : Option Vehicle)
      (o : Option Assignment) → answer_of (order_of v o) ≡ Ok (answer.Order (Some a) post status)
      → o ≡ Some a
  shown c a post status None o e = cc
  shown c a post status (Some v) o e = cc

  to_no_other : (c : Callsign) (a : Assignment) (at : ℕ) → GetsOrder r c at a
      → (c ≡ a.callsign) × Among a r.assignments
  unfolding vehicle_at assignment_at
  to_no_other c a at gets =
      let is : row_at callsign_cmp assignment_key r.assignments c ≡ Some a =
      shown c a gets.0 gets.1 (vehicle_at c r) (assignment_at c r) gets.2 in (
        row_key callsign_cmp assignment_key callsigns_total exact_callsigns r.assignments c a is,
        row_there callsign_cmp assignment_key r.assignments c a is,
      )

  busy_order : (v : Vehicle) → Among v r.vehicles → is_busy v.status ≡ true
      → (a : Assignment) × Among a r.assignments × (a.callsign ≡ v.callsign)
  busy_order v here busy =
      let x = (status_shows_assignments r w.order w.assignments v here).0 busy in
      (x.assignment, x.there, x.vehicle)

  -- the vehicle of a turn
  its_sender : (t : Turn) → Among t r.turns
      → (v : Vehicle) × Among v r.vehicles × (t.callsign ≡ v.callsign)
  its_sender t here = go (row_at callsign_cmp vehicle_key r.vehicles t.callsign) refl
      (subst (TurnAgrees (row_at callsign_cmp vehicle_key r.vehicles t.callsign) t.order)
      (row_among numbered_cmp turn_key numbered_total r.turns t w.order.turns here) (w.turns t.callsign t.order))
    where
      go : (o : Option Vehicle) → row_at callsign_cmp vehicle_key r.vehicles t.callsign ≡ o
          → TurnAgrees o t.order (Some t)
          → (v : Vehicle) × Among v r.vehicles × (t.callsign ≡ v.callsign)
      go None e h = absurd h
      go (Some v) e h = (
        v,
        row_there callsign_cmp vehicle_key r.vehicles t.callsign v e,
        row_key callsign_cmp vehicle_key callsigns_total exact_callsigns r.vehicles t.callsign v e,
      )

  turn_order : (t : Turn) → Among t r.turns → t.ended ≡ None
      → (a : Assignment) × Among a r.assignments × IsRecordOf a t
  turn_order t here unended =
      let v = its_sender t here in
      let open_now : HasOpenTurn r v.0.callsign =
      record { turn = t; there = here; vehicle = v.2; unended = unended } in
      let x = busy_order v.0 v.1 ((status_shows_turns r w.order w.turns v.0 v.1).1 open_now) in
      let is = of_one_order r w x.0 t x.1 here unended (x.2 ∙ sym v.2) in
      (x.0, x.1, (v.2 ∙ sym x.2, is.2, is.0, is.1))

  held_by : (a : Assignment) → Among a r.assignments
      → (v : Vehicle) × (vehicle_at a.callsign r ≡ Some v)
      × (v.holder ≡ a.division) × (is_busy v.status ≡ true)
  unfolding vehicle_at
  held_by a here =
      let v = its_vehicle r w a here in
      let says = agreed r w a here v.0 v.1 in
      (v.0, v.1, sym says.1, says.0)

  its_incident : (a : Assignment) → Among a r.assignments
      → IsActive (incident_of a.division a.incident r)
  unfolding incident_of
  its_incident a here =
      let v = its_vehicle r w a here in
      let x = (status_shows_turns r w.order w.turns v.0
      (row_there callsign_cmp vehicle_key r.vehicles a.callsign v.0 v.1)).0 (agreed r w a here v.0 v.1).0 in
      let name : a.callsign ≡ v.0.callsign =
      row_key callsign_cmp vehicle_key callsigns_total exact_callsigns r.vehicles a.callsign v.0 v.1 in
      let is = of_one_order r w a x.turn here x.there x.unended (name ∙ sym x.vehicle) in
      let active = subst (TurnIsActive r)
      (row_among numbered_cmp turn_key numbered_total r.turns x.turn w.order.turns x.there)
      (w.active x.turn.callsign x.turn.order) in
      subst (λ (k : ℕ × ℕ). IsActive (row_at pair_cmp incident_key r.incidents k)) (λ i. (is.0 i, is.1 i))
      (active x.unended)

  pub orders_reach : ReachTheirCrews r
  orders_reach = record {
    to_crew = to_crew;
    to_no_other = to_no_other;
    held = held_by;
    active = its_incident;
    turns = turn_order;
    statuses = busy_order;
  }
