-- In a well-formed room no vehicle is assigned twice.
use Rattle.std.proofs.Common.{ap, subst, sym, ◌∙◌}
use Rattle.std.specs.Prelude.{None, Option, Some, refl, ◌≡◌}
use Rattle.room_place.specs.Choice.{Among}
use Rattle.room_types.specs.KeyedRows.{row_at}
use Rattle.room_types.specs.Keys.{assignment_key, callsign_cmp, numbered_cmp, turn_key, vehicle_key}
use Rattle.room_types.specs.KeyLemmas.{callsigns_total, numbered_total}
use Rattle.room_types.specs.declared.tables.Assignment.{Assignment}
use Rattle.room_types.specs.declared.tables.Turn.{Turn}
use Rattle.room_types.specs.declared.tables.Vehicle.{Vehicle}
use Rattle.room_model.proofs.Tests.{row_among}
use Rattle.room_model.specs.Room.{Room}
use Rattle.room_model.specs.RoomAgreements.{AssignmentAgrees, IsWellFormed, OpenAgrees}
use Rattle.room_model.specs.RoomAgreements.{SameIncident, TurnAgrees}

module _ (r : Room) (w : IsWellFormed r) where
  assignment_there : (a : Assignment) → Among a r.assignments
      → row_at callsign_cmp assignment_key r.assignments a.callsign ≡ Some a
  assignment_there a here =
      row_among callsign_cmp assignment_key callsigns_total r.assignments a w.order.assignments here

  turn_there : (t : Turn) → Among t r.turns
      → row_at numbered_cmp turn_key r.turns (t.callsign, t.order) ≡ Some t
  turn_there t here = row_among numbered_cmp turn_key numbered_total r.turns t w.order.turns here

  -- a vehicle has at most one assignment
  pub one_assignment : (a b : Assignment) → Among a r.assignments → Among b r.assignments
      → a.callsign ≡ b.callsign → a ≡ b
  one_assignment a b here there same =
      let both : Some a
      ≡ Some b =
      sym (assignment_there a here)
      ∙ (ap (row_at callsign_cmp assignment_key r.assignments) same ∙ assignment_there b there) in
      cc

  -- what an open turn says of its vehicle
  record IsLastOrder (v : Vehicle) (t : Turn) : Type 0 where
    there : row_at callsign_cmp vehicle_key r.vehicles t.callsign ≡ Some v
    order : t.order ≡ v.last_order
    division : t.division ≡ v.holder

  last_order_of : (t : Turn) → (o : Option Vehicle)
      → row_at callsign_cmp vehicle_key r.vehicles t.callsign ≡ o → t.ended ≡ None
      → TurnAgrees o t.order (Some t) → (v : Vehicle) × IsLastOrder v t
  last_order_of t None there e h = absurd h
  last_order_of t (Some v) there e h =
      let g : OpenAgrees v t.order t None = subst (OpenAgrees v t.order t) e h.2 in
      (v, record { there = there; order = g.0; division = g.1 })

  open_order : (t : Turn) → Among t r.turns → t.ended ≡ None → (v : Vehicle) × IsLastOrder v t
  open_order t here e =
      last_order_of t _ refl e (subst (TurnAgrees (row_at callsign_cmp vehicle_key r.vehicles t.callsign) t.order)
      (turn_there t here) (w.turns t.callsign t.order))

  -- and at most one open turn
  pub one_open_turn : (t u : Turn) → Among t r.turns → Among u r.turns → t.ended ≡ None
      → u.ended ≡ None → t.callsign ≡ u.callsign → t ≡ u
  one_open_turn t u here there e f same =
      let x = open_order t here e in
      let y = open_order u there f in
      let vehicles : Some x.0
      ≡ Some y.0 = sym x.1.there ∙ (ap (row_at callsign_cmp vehicle_key r.vehicles) same ∙ y.1.there) in
      let vehicle : x.0 ≡ y.0 = cc in
      let order : t.order ≡ u.order = x.1.order ∙ (ap (λ (v : Vehicle). v.last_order) vehicle ∙ sym y.1.order) in
      let both : Some t
      ≡ Some u =
      sym (turn_there t here)
      ∙ (ap (row_at numbered_cmp turn_key r.turns) (λ i. (same i, order i)) ∙ turn_there u there) in
      cc

  same_incident_of : (a : Assignment) (t : Turn) (o : Option Assignment) (u : Option Turn)
      → o ≡ Some a → u ≡ Some t → SameIncident o u → t.order ≡ a.order → t.incident ≡ a.incident
  same_incident_of a t None u e f h = cc
  same_incident_of a t (Some b) None e f h = cc
  same_incident_of a t (Some b) (Some x) e f h =
      let g : b ≡ a = cc in
      let k : x ≡ t = cc in
      subst (λ (z : Turn). z.order ≡ a.order → z.incident ≡ a.incident) k
      (subst (λ (z : Assignment). x.order ≡ z.order → x.incident ≡ z.incident) g h)

  agreed_order : (v : Vehicle) (o : Option Vehicle) (a : Assignment) (p : Option Assignment)
      → o ≡ Some v → p ≡ Some a → AssignmentAgrees o p
      → (a.division ≡ v.holder) × (a.order ≡ v.last_order)
  agreed_order v None a p e f h = cc
  agreed_order v (Some u) a None e f h = cc
  agreed_order v (Some u) a (Some b) e f h =
      let g : b ≡ a = cc in
      let k : u ≡ v = cc in
      subst (λ (z : Assignment). (z.division ≡ v.holder) × (z.order ≡ v.last_order)) g
      (subst (λ (z : Vehicle). (b.division ≡ z.holder) × (b.order ≡ z.last_order)) k (h.1, h.2))

  -- which is the assignment's
  pub of_one_order : (a : Assignment) (t : Turn) → Among a r.assignments → Among t r.turns
      → t.ended ≡ None → a.callsign ≡ t.callsign
      → (t.division ≡ a.division) × (t.incident ≡ a.incident) × (t.order ≡ a.order)
  of_one_order a t here there e same =
      let x = open_order t there e in
      let v = x.0 in
      let found : row_at callsign_cmp assignment_key r.assignments t.callsign
      ≡ Some a = ap (row_at callsign_cmp assignment_key r.assignments) (sym same) ∙ assignment_there a here in
      let k = agreed_order v _ a _ x.1.there found (w.assignments t.callsign) in
      let order : t.order ≡ a.order = x.1.order ∙ sym k.1 in (
        x.1.division ∙ sym k.0,
        same_incident_of a t _ _ found (turn_there t there) (w.same_incident t.callsign t.order) order,
        order,
      )
