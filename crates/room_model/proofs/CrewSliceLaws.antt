-- A vehicle's rows in a well-formed room are a crew's slice.
use Rattle.std.proofs.Common.{None, Option, Some, ap, subst, sym, true, ℕ, ◌∙◌, ◌≡◌, List}
use Rattle.std.proofs.lemmas.Cmp.{tied_itself}
use Rattle.std.specs.Ordering.{is_eq}
use Rattle.std.specs.Prelude.{IfSome, filter, is_none, ◌&&◌, ◌↔◌}
use Rattle.room_types.proofs.EachRow.{row_key}
use Rattle.room_types.proofs.KeyedLaws.{row_filter}
use Rattle.room_types.specs.Crews.{IsCrew}
use Rattle.room_types.specs.KeyedRows.{IsKeyed, keep, row_at}
use Rattle.room_types.specs.Keys.{assignment_key, callsign_cmp, loan_key, numbered_cmp}
use Rattle.room_types.specs.Keys.{same_callsign, turn_key, vehicle_key}
use Rattle.room_types.specs.KeyLemmas.{callsigns_total, exact_callsigns, exact_numbered}
use Rattle.room_types.specs.KeyLemmas.{numbered_total}
use Rattle.room_types.specs.SentVehicles.{SentAgrees}
use Rattle.room_types.specs.Texts.{Callsign}
use Rattle.room_types.specs.declared.crews.CrewRows.{CrewRows}
use Rattle.room_types.specs.declared.tables.Assignment.{Assignment}
use Rattle.room_types.specs.declared.tables.Turn.{Turn}
use Rattle.room_types.specs.declared.tables.Vehicle.{Vehicle}
use Rattle.room_model.proofs.SliceLaws.{if_kept, if_then, is_open, sent_in_room}
use Rattle.room_model.proofs.Tests.{both_true, is_equal, keep_keep_row, keep_row, none_of}
use Rattle.room_model.specs.Room.{IsInOrder, Room}
use Rattle.room_model.specs.Shares.{mine}
use Rattle.room_model.specs.RoomSlices.{AreCrewRows}
use Rattle.room_model.specs.RoomAgreements.{IsWellFormed}
use Rattle.room_model.specs.RoomAgreements as room

-- ---- what is a vehicle's own of the room has its rows
same_self : (c k : Callsign) → c ≡ k → same_callsign k c ≡ true
same_self c k e = subst (λ j. same_callsign j c ≡ true) e (ap is_eq (tied_itself callsigns_total c))

mine_row : {X : Type 0} (key : X → Callsign) (xs : List X) (c : Callsign)
    → IsKeyed callsign_cmp key xs → row_at callsign_cmp key
    (filter (λ x. same_callsign (key x) c) xs) c ≡ row_at callsign_cmp key xs c
mine_row key xs c in_order =
    row_filter callsign_cmp key callsigns_total (λ x. same_callsign (key x) c) xs c in_order
    ∙ keep_row callsign_cmp key (λ x. same_callsign (key x) c) xs c
    (λ x h. same_self c (key x) (exact_callsigns c (key x) (is_equal _ h)))

module _ (c : Callsign) (r : Room) (in_order : IsInOrder r) where
  mine_turn : (m : ℕ) → keep is_open (row_at numbered_cmp turn_key (mine c r).turns (c, m))
      ≡ keep is_open (row_at numbered_cmp turn_key r.turns (c, m))
  mine_turn m =
      ap (keep is_open) (row_filter numbered_cmp turn_key numbered_total
      (λ x. same_callsign x.callsign c && is_none x.ended) r.turns (c, m) in_order.turns)
      ∙ keep_keep_row numbered_cmp turn_key is_open (λ x. same_callsign x.callsign c && is_none x.ended) r.turns (c, m)
      (λ x h open_one.
      both_true _ _
      (same_self c x.callsign (ap (λ (k : Callsign × ℕ). k.0) (exact_numbered (c, m) (turn_key x) (is_equal _ h))))
      open_one)

  pub rows_of_mine : (x : CrewRows) → AreCrewRows c (mine c r) x ↔ AreCrewRows c r x
  rows_of_mine x = (
    λ h. record {
      vehicle = sym (mine_row vehicle_key r.vehicles c in_order.vehicles) ∙ h.vehicle;
      assignment = sym (mine_row assignment_key r.assignments c in_order.assignments) ∙ h.assignment;
      turn = sym (mine_turn x.vehicle.last_order) ∙ h.turn;
      loan = sym (mine_row loan_key r.loans c in_order.loans) ∙ h.loan;
    },
    λ h. record {
      vehicle = mine_row vehicle_key r.vehicles c in_order.vehicles ∙ h.vehicle;
      assignment = mine_row assignment_key r.assignments c in_order.assignments ∙ h.assignment;
      turn = mine_turn x.vehicle.last_order ∙ h.turn;
      loan = mine_row loan_key r.loans c in_order.loans ∙ h.loan;
    },
  )

-- ---- and they agree
module _ (c : Callsign) (r : Room) (x : CrewRows) (formed : IsWellFormed r)
    (mine : AreCrewRows c r x) where
  vehicle_named : x.vehicle.callsign ≡ c
  vehicle_named =
      subst (λ o. IfSome o (λ v. v.callsign ≡ c)) mine.vehicle
      (row_key callsign_cmp vehicle_key callsigns_total exact_callsigns r.vehicles c)

  assignment_named : IfSome x.assignment (λ a. a.callsign ≡ x.vehicle.callsign)
  assignment_named = subst (λ o. IfSome o (λ a. a.callsign ≡ x.vehicle.callsign)) mine.assignment
      (if_then (λ a. a.callsign ≡ c) (λ a. a.callsign ≡ x.vehicle.callsign)
      (row_at callsign_cmp assignment_key r.assignments c) (λ a e. e ∙ sym vehicle_named)
      (row_key callsign_cmp assignment_key callsigns_total exact_callsigns r.assignments c))

  loan_named : IfSome x.loan (λ l. l.callsign ≡ x.vehicle.callsign)
  loan_named = subst (λ o. IfSome o (λ l. l.callsign ≡ x.vehicle.callsign)) mine.loan
      (if_then (λ l. l.callsign ≡ c) (λ l. l.callsign ≡ x.vehicle.callsign) (row_at callsign_cmp loan_key r.loans c)
      (λ l e. e ∙ sym vehicle_named) (row_key callsign_cmp loan_key callsigns_total exact_callsigns r.loans c))

  turn_named : (m : ℕ) → IfSome (row_at numbered_cmp turn_key r.turns (c, m))
      (λ t. turn_key t ≡ (c, m))
  turn_named m = row_key numbered_cmp turn_key numbered_total exact_numbered r.turns (c, m)

  turn_open : IfSome x.turn (λ t. (t.callsign ≡ x.vehicle.callsign) × (t.ended ≡ None))
  turn_open = subst (λ o. IfSome o (λ t. (t.callsign ≡ x.vehicle.callsign) × (t.ended ≡ None))) mine.turn
      (if_kept is_open (λ t. (t.callsign ≡ x.vehicle.callsign) × (t.ended ≡ None))
      (row_at numbered_cmp turn_key r.turns (c, x.vehicle.last_order)) (λ t e open_one.
      let key : turn_key t
      ≡ (c, x.vehicle.last_order) =
      subst (λ o. IfSome o (λ t. turn_key t ≡ (c, x.vehicle.last_order))) e (turn_named x.vehicle.last_order) in
      (ap (λ (k : Callsign × ℕ). k.0) key ∙ sym vehicle_named, none_of t.ended open_one)))

  sent : SentAgrees x.vehicle x.assignment x.turn
  sent =
      subst (λ a. SentAgrees x.vehicle a x.turn) mine.assignment
      (subst (SentAgrees x.vehicle (row_at callsign_cmp assignment_key r.assignments c)) mine.turn
      (sent_in_room x.vehicle _ _
      (subst (λ o. room.AssignmentAgrees o (row_at callsign_cmp assignment_key r.assignments c)) mine.vehicle
      (formed.assignments c))
      (subst
      (λ o. room.TurnAgrees o x.vehicle.last_order (row_at numbered_cmp turn_key r.turns (c, x.vehicle.last_order)))
      mine.vehicle (formed.turns c x.vehicle.last_order))
      (formed.same_incident c x.vehicle.last_order)
      (if_then (λ t. turn_key t ≡ (c, x.vehicle.last_order)) (λ t. t.order ≡ x.vehicle.last_order)
      (row_at numbered_cmp turn_key r.turns (c, x.vehicle.last_order)) (λ t e. ap (λ (k : Callsign × ℕ). k.1) e)
      (turn_named x.vehicle.last_order))))

  pub rows_are_crew : IsCrew x
  rows_are_crew = record {
    assignment = assignment_named;
    turn = turn_open;
    loan = loan_named;
    sent = sent;
  }
