-- What a vehicle's status says of its turns and its assignment.
use Rattle.std.proofs.Common.{ap, subst, sym, ◌∙◌}
use Rattle.std.proofs.lemmas.Bool.{false_from_ne_true}
use Rattle.std.specs.Prelude.{Bool, None, Option, Some, false, refl, true, ℕ, ◌↔◌, ◌≡◌}
use Rattle.room_place.specs.Choice.{Among}
use Rattle.room_types.specs.Codes.{is_busy}
use Rattle.room_types.specs.KeyedRows.{row_at}
use Rattle.room_types.specs.Keys.{assignment_key, callsign_cmp, numbered_cmp, turn_key, vehicle_key}
use Rattle.room_types.specs.KeyLemmas.{callsigns_total, exact_callsigns, exact_numbered}
use Rattle.room_types.specs.KeyLemmas.{numbered_total}
use Rattle.room_types.specs.Texts.{Callsign}
use Rattle.room_types.specs.declared.tables.Assignment.{Assignment}
use Rattle.room_types.specs.declared.tables.Turn.{Turn}
use Rattle.room_types.specs.declared.tables.Vehicle.{Vehicle}
use Rattle.room_model.proofs.OpenTurns.{row_there}
use Rattle.room_model.proofs.Tests.{row_among, row_key}
use Rattle.room_model.specs.Room.{IsInOrder, Room}
use Rattle.room_model.specs.RoomAgreements.{AssignmentAgrees, AssignmentStands, AssignmentsAgree}
use Rattle.room_model.specs.RoomAgreements.{AssignmentsStand, HasAssignment, HasOpenTurn}
use Rattle.room_model.specs.RoomAgreements.{OpenAgrees, StatusShowsAssignments, StatusShowsTurns}
use Rattle.room_model.specs.RoomAgreements.{TurnAgrees, TurnStands, TurnsAgree, TurnsStand}

never_both : (b : Bool) → b ≡ true → b ≡ false → ⊥
never_both b e f = cc

assignment_stands : (o : Option Vehicle) (p : Option Assignment) → AssignmentAgrees o p
    → AssignmentStands o p
assignment_stands None None h = tt
assignment_stands None (Some a) h = h
assignment_stands (Some v) None h = tt
assignment_stands (Some v) (Some a) h = (h.1, h.2)

turn_stands : (o : Option Vehicle) (n : ℕ) (p : Option Turn) → TurnAgrees o n p → TurnStands o n p
turn_stands None n None h = tt
turn_stands None n (Some t) h = h
turn_stands (Some v) n None h = tt
turn_stands (Some v) n (Some t) h =
    (h.0, h.1, λ e. let g : OpenAgrees v n t None = subst (OpenAgrees v n t) e h.2 in (g.0, g.1))

module _ (r : Room) (order : IsInOrder r) where
  vehicle_there : (v : Vehicle) → Among v r.vehicles
      → row_at callsign_cmp vehicle_key r.vehicles v.callsign ≡ Some v
  vehicle_there v here = row_among callsign_cmp vehicle_key callsigns_total r.vehicles v order.vehicles here

  vehicle_name : (c : Callsign) (v : Vehicle)
      → row_at callsign_cmp vehicle_key r.vehicles c ≡ Some v → c ≡ v.callsign
  vehicle_name c v e = row_key callsign_cmp vehicle_key callsigns_total exact_callsigns r.vehicles c v e

  vehicle_among : (c : Callsign) (v : Vehicle)
      → row_at callsign_cmp vehicle_key r.vehicles c ≡ Some v → Among v r.vehicles
  vehicle_among c v e = row_there callsign_cmp vehicle_key r.vehicles c v e

  -- ---- assignments
  has_assignment : (c : Callsign) (a : Assignment)
      → row_at callsign_cmp assignment_key r.assignments c ≡ Some a → HasAssignment r c
  has_assignment c a e = record {
    assignment = a;
    there = row_there callsign_cmp assignment_key r.assignments c a e;
    vehicle = sym (row_key callsign_cmp assignment_key callsigns_total exact_callsigns r.assignments c a e);
  }

  assignment_found : (c : Callsign) (x : HasAssignment r c)
      → row_at callsign_cmp assignment_key r.assignments c ≡ Some x.assignment
  assignment_found c x =
      ap (row_at callsign_cmp assignment_key r.assignments) (sym x.vehicle)
      ∙ row_among callsign_cmp assignment_key callsigns_total r.assignments x.assignment order.assignments x.there

  assignment_of_busy : (v : Vehicle) (p : Option Assignment)
      → row_at callsign_cmp assignment_key r.assignments v.callsign ≡ p
      → AssignmentAgrees (Some v) p → is_busy v.status ≡ true → HasAssignment r v.callsign
  assignment_of_busy v None e h busy = absurd (never_both (is_busy v.status) busy h)
  assignment_of_busy v (Some a) e h busy = has_assignment v.callsign a e

  pub status_shows_assignments : AssignmentsAgree r → StatusShowsAssignments r
  status_shows_assignments agree v here =
      let h : AssignmentAgrees (Some v) (row_at callsign_cmp assignment_key r.assignments v.callsign) = subst
      (λ (o : Option Vehicle). AssignmentAgrees o (row_at callsign_cmp assignment_key r.assignments v.callsign))
      (vehicle_there v here) (agree v.callsign) in (
        λ busy. assignment_of_busy v _ refl h busy,
        λ x. (subst (AssignmentAgrees (Some v)) (assignment_found v.callsign x) h).0,
      )

  assignment_agrees : StatusShowsAssignments r
      → (c : Callsign) (o : Option Vehicle) (p : Option Assignment)
      → row_at callsign_cmp vehicle_key r.vehicles c ≡ o
      → row_at callsign_cmp assignment_key r.assignments c ≡ p → AssignmentStands o p
      → AssignmentAgrees o p
  assignment_agrees shows c None None e f h = tt
  assignment_agrees shows c None (Some a) e f h = h
  assignment_agrees shows c (Some v) None e f h = false_from_ne_true (is_busy v.status) (λ busy.
      let x : HasAssignment r c = subst (HasAssignment r) (sym (vehicle_name c v e))
      ((shows v (vehicle_among c v e)).0 busy) in
      let found : row_at callsign_cmp assignment_key r.assignments c ≡ Some x.assignment = assignment_found c x in
      cc)
  assignment_agrees shows c (Some v) (Some a) e f h = (
    (shows v (vehicle_among c v e)).1 (subst (HasAssignment r) (vehicle_name c v e) (has_assignment c a f)),
    h.0,
    h.1,
  )

  pub assignments_by_status : AssignmentsAgree r ↔ (AssignmentsStand r × StatusShowsAssignments r)
  assignments_by_status = (
    λ agree. (λ c. assignment_stands _ _ (agree c), status_shows_assignments agree),
    λ h c. assignment_agrees h.1 c _ _ refl refl (h.0 c),
  )

  -- ---- turns
  has_open_turn : (c : Callsign) (n : ℕ) (t : Turn)
      → row_at numbered_cmp turn_key r.turns (c, n) ≡ Some t → t.ended ≡ None → HasOpenTurn r c
  has_open_turn c n t e open_one = record {
    turn = t;
    there = row_there numbered_cmp turn_key r.turns (c, n) t e;
    vehicle =
        sym (ap (λ (k : Callsign × ℕ). k.0)
        (row_key numbered_cmp turn_key numbered_total exact_numbered r.turns (c, n) t e));
    unended = open_one;
  }

  turn_found : (c : Callsign) (x : HasOpenTurn r c)
      → row_at numbered_cmp turn_key r.turns (c, x.turn.order) ≡ Some x.turn
  turn_found c x =
      ap (λ (k : Callsign). row_at numbered_cmp turn_key r.turns (k, x.turn.order)) (sym x.vehicle)
      ∙ row_among numbered_cmp turn_key numbered_total r.turns x.turn order.turns x.there

  turn_of_busy : (v : Vehicle) (t : Turn)
      → row_at numbered_cmp turn_key r.turns (v.callsign, v.last_order) ≡ Some t → (o : Option ℕ)
      → t.ended ≡ o → OpenAgrees v v.last_order t o → is_busy v.status ≡ true
      → HasOpenTurn r v.callsign
  turn_of_busy v t e None f h busy = has_open_turn v.callsign v.last_order t e f
  turn_of_busy v t e (Some at) f h busy = absurd (never_both (is_busy v.status) busy (h refl))

  open_of_busy : (v : Vehicle) (p : Option Turn)
      → row_at numbered_cmp turn_key r.turns (v.callsign, v.last_order) ≡ p
      → TurnAgrees (Some v) v.last_order p → is_busy v.status ≡ true → HasOpenTurn r v.callsign
  open_of_busy v None e h busy = absurd (never_both (is_busy v.status) busy (h refl))
  open_of_busy v (Some t) e h busy = turn_of_busy v t e t.ended refl h.2 busy

  turn_at : TurnsAgree r → (v : Vehicle) → Among v r.vehicles → (n : ℕ)
      → TurnAgrees (Some v) n (row_at numbered_cmp turn_key r.turns (v.callsign, n))
  turn_at agree v here n =
      subst (λ (o : Option Vehicle). TurnAgrees o n (row_at numbered_cmp turn_key r.turns (v.callsign, n)))
      (vehicle_there v here) (agree v.callsign n)

  busy_of_turn : TurnsAgree r → (v : Vehicle) → Among v r.vehicles → HasOpenTurn r v.callsign
      → is_busy v.status ≡ true
  busy_of_turn agree v here x =
      let h : TurnAgrees (Some v) x.turn.order (Some x.turn) = subst (TurnAgrees (Some v) x.turn.order)
      (turn_found v.callsign x) (turn_at agree v here x.turn.order) in
      let g : OpenAgrees v x.turn.order x.turn None = subst (OpenAgrees v x.turn.order x.turn) x.unended h.2 in
      g.2

  pub status_shows_turns : TurnsAgree r → StatusShowsTurns r
  status_shows_turns agree v here =
      (λ busy. open_of_busy v _ refl (turn_at agree v here v.last_order) busy, busy_of_turn agree v here)

  -- an open turn stands at the vehicle's last order
  last_found : TurnsStand r → (c : Callsign) (v : Vehicle)
      → row_at callsign_cmp vehicle_key r.vehicles c ≡ Some v → (x : HasOpenTurn r c) → (n : ℕ)
      → n ≡ v.last_order → row_at numbered_cmp turn_key r.turns (c, n) ≡ Some x.turn
  last_found stand c v e x n last =
      let h : TurnStands (Some v) x.turn.order (Some x.turn) = subst (TurnStands (Some v) x.turn.order) (turn_found c x)
      (subst
      (λ (o : Option Vehicle). TurnStands o x.turn.order (row_at numbered_cmp turn_key r.turns (c, x.turn.order))) e
      (stand c x.turn.order)) in
      let same : n ≡ x.turn.order = last ∙ sym (h.2 x.unended).0 in
      ap (λ m. row_at numbered_cmp turn_key r.turns (c, m)) same ∙ turn_found c x

  open_now : StatusShowsTurns r → (c : Callsign) (v : Vehicle)
      → row_at callsign_cmp vehicle_key r.vehicles c ≡ Some v → is_busy v.status ≡ true
      → HasOpenTurn r c
  open_now shows c v e busy = subst (HasOpenTurn r) (sym (vehicle_name c v e)) ((shows v (vehicle_among c v e)).0 busy)

  open_agrees : TurnsStand r → StatusShowsTurns r → (c : Callsign) (v : Vehicle)
      → row_at callsign_cmp vehicle_key r.vehicles c ≡ Some v → (n : ℕ) (t : Turn)
      → row_at numbered_cmp turn_key r.turns (c, n) ≡ Some t → TurnStands (Some v) n (Some t)
      → (o : Option ℕ) → t.ended ≡ o → OpenAgrees v n t o
  open_agrees stand shows c v e n t f h None g = (
    (h.2 g).0,
    (h.2 g).1,
    (shows v (vehicle_among c v e)).1 (subst (HasOpenTurn r) (vehicle_name c v e) (has_open_turn c n t f g)),
  )
  open_agrees stand shows c v e n t f h (Some at) g = λ last. false_from_ne_true (is_busy v.status) (λ busy.
      let x = open_now shows c v e busy in
      let found : row_at numbered_cmp turn_key r.turns (c, n) ≡ Some x.turn = last_found stand c v e x n last in
      let same : t ≡ x.turn = cc in
      let unended : t.ended ≡ None = ap (λ (u : Turn). u.ended) same ∙ x.unended in
      cc)

  turn_agrees : TurnsStand r → StatusShowsTurns r
      → (c : Callsign) (n : ℕ) (o : Option Vehicle) (p : Option Turn)
      → row_at callsign_cmp vehicle_key r.vehicles c ≡ o
      → row_at numbered_cmp turn_key r.turns (c, n) ≡ p → TurnStands o n p → TurnAgrees o n p
  turn_agrees stand shows c n None None e f h = tt
  turn_agrees stand shows c n None (Some t) e f h = h
  turn_agrees stand shows c n (Some v) None e f h = λ last. false_from_ne_true (is_busy v.status) (λ busy.
      let x = open_now shows c v e busy in
      let found : row_at numbered_cmp turn_key r.turns (c, n) ≡ Some x.turn = last_found stand c v e x n last in
      cc)
  turn_agrees stand shows c n (Some v) (Some t) e f h = (h.0, h.1, open_agrees stand shows c v e n t f h t.ended refl)

  pub turns_by_status : TurnsAgree r ↔ (TurnsStand r × StatusShowsTurns r)
  turns_by_status = (
    λ agree. (λ c n. turn_stands _ n _ (agree c n), status_shows_turns agree),
    λ h c n. turn_agrees h.0 h.1 c n _ _ refl refl (h.0 c n),
  )
