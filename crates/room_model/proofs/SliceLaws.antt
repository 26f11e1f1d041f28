-- A well-formed room's rows are a slice's.
use Rattle.std.proofs.Common.{Bool, List, None, Option, Some, [], ap, cond, false, refl, subst, sym}
use Rattle.std.proofs.Common.{true, ℕ, ◌∙◌, ◌∷◌, ◌≡◌, ◌≤◌}
use Rattle.std.specs.List.{list_all}
use Rattle.std.specs.Prelude.{IfSome, filter, is_none, nat_le, ◌&&◌, ◌==◌, ◌||◌}
use Rattle.room_types.proofs.EachRow.{row_key}
use Rattle.room_types.proofs.KeyedLaws.{row_filter}
use Rattle.room_types.specs.KeyedRows.{keep, row_at}
use Rattle.room_types.specs.Keys.{assignment_key, callsign_cmp, incident_key, numbered_cmp}
use Rattle.room_types.specs.Keys.{owns_assignment, owns_call, owns_division, owns_incident}
use Rattle.room_types.specs.Keys.{owns_loan, owns_offer, owns_point, owns_report, owns_turn}
use Rattle.room_types.specs.Keys.{owns_vehicle, pair_cmp, turn_key, vehicle_key}
use Rattle.room_types.specs.KeyLemmas.{callsigns_total, exact_callsigns, exact_numbered}
use Rattle.room_types.specs.KeyLemmas.{numbered_total, pairs_total}
use Rattle.room_types.specs.SentVehicles.{IsSent, PartsAgree, SentAgrees}
use Rattle.room_types.specs.Codes.{is_active, is_busy}
use Rattle.room_types.specs.Slices.{AssignmentAgrees, IsActive, IsInTurn, IsShare, TurnAgrees}
use Rattle.room_types.specs.Slices.{VehicleAgrees, assignment_at, open_turn, turn_at, vehicle_at}
use Rattle.room_types.specs.Texts.{Callsign}
use Rattle.room_types.specs.declared.asks.Ask.{Ask}
use Rattle.room_types.specs.declared.slices.DivisionRows.{DivisionRows}
use Rattle.room_types.specs.declared.tables.Assignment.{Assignment}
use Rattle.room_types.specs.declared.tables.Call.{Call}
use Rattle.room_types.specs.declared.tables.Division.{Division}
use Rattle.room_types.specs.declared.tables.Incident.{Incident}
use Rattle.room_types.specs.declared.tables.Loan.{Loan}
use Rattle.room_types.specs.declared.tables.Offer.{Offer}
use Rattle.room_types.specs.declared.tables.Point.{Point}
use Rattle.room_types.specs.declared.tables.Report.{Report}
use Rattle.room_types.specs.declared.tables.Turn.{Turn}
use Rattle.room_types.specs.declared.tables.Vehicle.{Vehicle}
use Rattle.room_model.proofs.Tests.{Implies, left_true}
use Rattle.room_model.specs.Room.{Room}
use Rattle.room_model.specs.Shares.{own}
use Rattle.room_model.specs.RoomSlices.{room_of}
use Rattle.room_model.specs.RoomAgreements.{IsWellFormed}
use Rattle.room_model.specs.WorkingRows.{names_turn, reads_assignments, reads_calls, reads_division}
use Rattle.room_model.specs.WorkingRows.{reads_incident, reads_loan, reads_number, reads_offer}
use Rattle.room_model.specs.WorkingRows.{reads_point, reads_report, reads_vehicle, working}
use Rattle.room_model.specs.RoomAgreements as room

abbrev pub is_open : Turn → Bool
is_open t = is_none t.ended

-- ---- one vehicle's rows, in a room that keeps the agreements
-- a busy vehicle's turn of its last order is open, and its holder's
open_busy : (v : Vehicle) (n : ℕ) (t : Turn) (ended : Option ℕ) → room.OpenAgrees v n t ended
    → n ≡ v.last_order → is_busy v.status ≡ true → (ended ≡ None) × (t.division ≡ v.holder)
open_busy v n t None h last busy = (refl, h.1)
open_busy v n t (Some at) h last busy = let idle = h last in cc

open_holder : (v : Vehicle) (n : ℕ) (t : Turn) (ended : Option ℕ) → room.OpenAgrees v n t ended
    → is_none ended ≡ true → (n ≡ v.last_order) × (t.division ≡ v.holder)
open_holder v n t None h e = (h.0, h.1)
open_holder v n t (Some at) h e = cc

-- an idle vehicle's is not
open_idle : (v : Vehicle) (n : ℕ) (t : Turn) (ended : Option ℕ) → room.OpenAgrees v n t ended
    → is_busy v.status ≡ false → is_none ended ≡ false
open_idle v n t None h idle = let busy = h.2 in cc
open_idle v n t (Some at) h idle = refl

-- so it has an assignment, and an open turn, exactly where it is busy
pub sent_in_room : (v : Vehicle) (a : Option Assignment) (t : Option Turn)
    → room.AssignmentAgrees (Some v) a → room.TurnAgrees (Some v) v.last_order t
    → room.SameIncident a t → IfSome t (λ x. x.order ≡ v.last_order)
    → SentAgrees v a (keep is_open t)
sent_in_room v None None h g same last = h
sent_in_room v None (Some x) h g same last = rw (open_idle v v.last_order x x.ended g.2 h) h
sent_in_room v (Some y) None h g same last = let idle = g refl in let busy = h.0 in cc
sent_in_room v (Some y) (Some x) h g same last =
    let found = open_busy v v.last_order x x.ended g.2 refl h.0 in
    rw (ap (λ (o : Option ℕ). is_none o) found.0) (record {
      busy = h.0;
      assigned_by_holder = h.1;
      ordered_by_holder = found.1;
      same_incident = same (last ∙ sym h.2);
      assigned_last = h.2;
      ordered_last = last;
    })

-- ---- a division's rows, of a well-formed room
-- a filter's rows pass
all_filter : {X : Type 0} (p q : X → Bool) → Implies q p → (xs : List X)
    → list_all p (filter q xs) ≡ true
all_filter p q f [] = refl
all_filter p q f (x ∷ xs) =
    (elim (q x) as (λ (b : Bool). q x ≡ b → list_all p (cond b (x ∷ filter q xs) (filter q xs)) ≡ true) [
      | true ↦ λ e. rw (f x e) (all_filter p q f xs)
      | false ↦ λ e. all_filter p q f xs
    ]) refl

-- of the value, if there is one
pub if_from : {X : Type 0} (P : X → Type 0) (o : Option X) → ((x : X) → o ≡ Some x → P x)
    → IfSome o P
if_from P None f = tt
if_from P (Some x) f = f x refl

pub if_then : {X : Type 0} (P Q : X → Type 0) (o : Option X) → ((x : X) → P x → Q x) → IfSome o P
    → IfSome o Q
if_then P Q None f h = tt
if_then P Q (Some x) f h = f x h

pub if_kept : {X : Type 0} (p : X → Bool) (P : X → Type 0) (o : Option X)
    → ((x : X) → o ≡ Some x → p x ≡ true → P x) → IfSome (keep p o) P
if_kept p P None f = tt
if_kept p P (Some x) f =
    (elim (p x) as (λ (b : Bool). p x ≡ b → IfSome (cond b (Some x) None) P)
    [ true ↦ λ e. f x refl e | false ↦ λ e. tt ]) refl

-- of what agrees, any parts do
parts_of : (v : Vehicle) (a : Option Assignment) (t : Option Turn) → SentAgrees v a t
    → (b c : Bool) → PartsAgree v (cond b a None) (cond c t None)
parts_of v None None h true true = tt
parts_of v None None h true false = tt
parts_of v None None h false true = tt
parts_of v None None h false false = tt
parts_of v None (Some t) h b c = absurd h
parts_of v (Some a) None h b c = absurd h
parts_of v (Some a) (Some t) h true true = h
parts_of v (Some a) (Some t) h true false =
    record { busy = h.busy; assigned_by_holder = h.assigned_by_holder; assigned_last = h.assigned_last }
parts_of v (Some a) (Some t) h false true =
    record { busy = h.busy; ordered_by_holder = h.ordered_by_holder; ordered_last = h.ordered_last }
parts_of v (Some a) (Some t) h false false = tt

-- what a test keeps is the value or none
abbrev passed : {X : Type 0} → (X → Bool) → Option X → Bool
passed p None = true
passed p (Some x) = p x

kept_so : {X : Type 0} (p : X → Bool) (o : Option X) → keep p o ≡ cond (passed p o) o None
kept_so p None = refl
kept_so p (Some x) = refl

-- of the last order, where there is one, the open turn that is kept
abbrev turn_passed : {X : Type 0} → Bool → (X → Bool) → Option X → Bool
turn_passed b p None = true
turn_passed b p (Some x) = b && p x

open_kept : {X : Type 0} (b : Bool) (is p : X → Bool) (o : Option X)
    → cond b (keep is (keep p o)) None ≡ cond (turn_passed b p o) (keep is o) None
open_kept true is p None = refl
open_kept false is p None = refl
open_kept false is p (Some x) = refl
open_kept true is p (Some x) =
    (elim (p x) as (λ (b : Bool). keep is (cond b (Some x) None) ≡ cond b (keep is (Some x)) None)
    [ true ↦ refl | false ↦ refl ])

-- ---- the incident of an order
module _ (r : Room) (formed : IsWellFormed r) where
  turn_order : (c : Callsign) (n : ℕ)
      → IfSome (row_at numbered_cmp turn_key r.turns (c, n)) (λ t. t.order ≡ n)
  turn_order c n =
      if_then (λ t. turn_key t ≡ (c, n)) (λ t. t.order ≡ n) (row_at numbered_cmp turn_key r.turns (c, n))
      (λ t e. ap (λ (k : Callsign × ℕ). k.1) e)
      (row_key numbered_cmp turn_key numbered_total exact_numbered r.turns (c, n))

  assigned_active : (v : Vehicle) (a : Assignment) (t : Option Turn) → a.division ≡ v.holder
      → is_busy v.status ≡ true → a.order ≡ v.last_order → room.TurnAgrees (Some v) v.last_order t
      → room.SameIncident (Some a) t → IfSome t (λ x. x.order ≡ v.last_order)
      → room.TurnIsActive r t
      → IsActive (row_at pair_cmp incident_key r.incidents (a.division, a.incident))
  assigned_active v a None held busy last ordered same numbered active = let idle = ordered refl in cc
  assigned_active v a (Some t) held busy last ordered same numbered active =
      let found = open_busy v v.last_order t t.ended ordered.2 refl busy in
      subst (λ n. IsActive (row_at pair_cmp incident_key r.incidents (n, a.incident))) (found.1 ∙ sym held)
      (subst (λ n. IsActive (row_at pair_cmp incident_key r.incidents (t.division, n))) (same (numbered ∙ sym last))
      (active found.0))

  -- it is active
  pub order_active : (c : Callsign) (a : Assignment)
      → row_at callsign_cmp assignment_key r.assignments c ≡ Some a
      → IsActive (row_at pair_cmp incident_key r.incidents (a.division, a.incident))
  order_active c a e =
      (elim (row_at callsign_cmp vehicle_key r.vehicles c) as (λ o.
      row_at callsign_cmp vehicle_key r.vehicles c ≡ o → room.AssignmentAgrees o (Some a)
      → IsActive (row_at pair_cmp incident_key r.incidents (a.division, a.incident))) [
        | None ↦ λ f h. absurd h
        | Some v ↦ λ f h.
            let ordered = subst
            (λ o. room.TurnAgrees o v.last_order (row_at numbered_cmp turn_key r.turns (c, v.last_order))) f
            (formed.turns c v.last_order) in
            let same = subst (λ o. room.SameIncident o (row_at numbered_cmp turn_key r.turns (c, v.last_order))) e
            (formed.same_incident c v.last_order) in
            assigned_active v a _ h.1 h.0 h.2 ordered same (turn_order c v.last_order)
            (formed.active c v.last_order)
      ]) refl
      (subst (λ o. room.AssignmentAgrees (row_at callsign_cmp vehicle_key r.vehicles c) o) e (formed.assignments c))

-- which rows are read: the division's, of each table
record Reads (d : ℕ) : Type 0 where
  division : Division → Bool
  incident : Incident → Bool
  call : Call → Bool
  vehicle : Vehicle → Bool
  turn : Turn → Bool
  assignment : Assignment → Bool
  point : Point → Bool
  loan : Loan → Bool
  offer : Offer → Bool
  report : Report → Bool
  own_division : Implies division (owns_division d)
  own_incident : Implies incident (owns_incident d)
  own_call : Implies call (owns_call d)
  own_vehicle : Implies vehicle (owns_vehicle d)
  own_turn : Implies turn (owns_turn d)
  own_assignment : Implies assignment (owns_assignment d)
  own_point : Implies point (owns_point d)
  own_loan : Implies loan (owns_loan d)
  own_offer : Implies offer (owns_offer d)
  own_report : Implies report (owns_report d)

module _ (d : ℕ) (r : Room) (formed : IsWellFormed r) (reads : Reads d) where
  -- the rows of the division that are read
  abbrev read_rows : DivisionRows
  read_rows = record {
    divisions = filter reads.division r.divisions;
    incidents = filter reads.incident r.incidents;
    calls = filter reads.call r.calls;
    vehicles = filter reads.vehicle r.vehicles;
    turns = filter reads.turn r.turns;
    assignments = filter reads.assignment r.assignments;
    points = filter reads.point r.points;
    loans = filter reads.loan r.loans;
    offers = filter reads.offer r.offers;
    reports = filter reads.report r.reports;
  }

  vehicle_row : (c : Callsign) → vehicle_at c read_rows
      ≡ keep reads.vehicle (row_at callsign_cmp vehicle_key r.vehicles c)
  vehicle_row c = row_filter callsign_cmp vehicle_key callsigns_total reads.vehicle r.vehicles c formed.order.vehicles

  assignment_row : (c : Callsign) → assignment_at c read_rows
      ≡ keep reads.assignment (row_at callsign_cmp assignment_key r.assignments c)
  assignment_row c =
      row_filter callsign_cmp assignment_key callsigns_total reads.assignment r.assignments c formed.order.assignments

  turn_row : (c : Callsign) (n : ℕ)
      → turn_at c n read_rows ≡ keep reads.turn (row_at numbered_cmp turn_key r.turns (c, n))
  turn_row c n = row_filter numbered_cmp turn_key numbered_total reads.turn r.turns (c, n) formed.order.turns

  -- ---- at each callsign
  vehicle_agreed : (c : Callsign) (v : Vehicle)
      → row_at callsign_cmp vehicle_key r.vehicles c ≡ Some v → VehicleAgrees read_rows c v
  vehicle_agreed c v e =
      let named : v.callsign
      ≡ c =
      subst (λ o. IfSome o (λ x. x.callsign ≡ c)) e
      (row_key callsign_cmp vehicle_key callsigns_total exact_callsigns r.vehicles c) in
      let assigned = subst (λ o. room.AssignmentAgrees o (row_at callsign_cmp assignment_key r.assignments c)) e
      (formed.assignments c) in
      let ordered = subst (λ o. room.TurnAgrees o v.last_order (row_at numbered_cmp turn_key r.turns (c, v.last_order)))
      e (formed.turns c v.last_order) in
      let turn = row_at numbered_cmp turn_key r.turns (c, v.last_order) in
      let same_assignment = assignment_row c
      ∙ kept_so reads.assignment (row_at callsign_cmp assignment_key r.assignments c) in
      let same_turn : open_turn v read_rows
      ≡ cond (turn_passed (nat_le 1 v.last_order) reads.turn turn) (keep is_open turn) None =
      ap (λ k. cond (nat_le 1 v.last_order) (keep is_open (turn_at k v.last_order read_rows)) None) named
      ∙ (ap (λ o. cond (nat_le 1 v.last_order) (keep is_open o) None) (turn_row c v.last_order)
      ∙ open_kept (nat_le 1 v.last_order) is_open reads.turn turn) in
      subst (λ a. PartsAgree v a (open_turn v read_rows)) (sym same_assignment)
      (subst (PartsAgree v (cond (passed reads.assignment (row_at callsign_cmp assignment_key r.assignments c))
      (row_at callsign_cmp assignment_key r.assignments c) None)) (sym same_turn)
      (parts_of v _ _
      (sent_in_room v _ _ assigned ordered (formed.same_incident c v.last_order)
      (turn_order r formed c v.last_order)) _ _))

  vehicles_agreed : (c : Callsign) → IfSome (vehicle_at c read_rows) (VehicleAgrees read_rows c)
  vehicles_agreed c =
      subst (λ o. IfSome o (VehicleAgrees read_rows c)) (sym (vehicle_row c))
      (if_kept reads.vehicle (VehicleAgrees read_rows c) (row_at callsign_cmp vehicle_key r.vehicles c)
      (λ v e passes. vehicle_agreed c v e))

  -- an active incident that is read is active
  active_read : (o : Option Incident) → IsActive o
      → IfSome (keep reads.incident o) (λ i. is_active i.state ≡ true)
  active_read None h = absurd h
  active_read (Some i) h =
      if_kept reads.incident (λ x. is_active x.state ≡ true) (Some i) (λ x e passes. subst IsActive e h)

  assignment_agreed : (c : Callsign) (a : Assignment)
      → row_at callsign_cmp assignment_key r.assignments c ≡ Some a → AssignmentAgrees read_rows a
  assignment_agreed c a e =
      subst (λ o. IfSome o (λ i. is_active i.state ≡ true))
      (sym (row_filter pair_cmp incident_key pairs_total reads.incident r.incidents (a.division, a.incident)
      formed.order.incidents)) (active_read _ (order_active r formed c a e))

  assignments_agreed : (c : Callsign)
      → IfSome (assignment_at c read_rows) (AssignmentAgrees read_rows)
  assignments_agreed c =
      subst (λ o. IfSome o (AssignmentAgrees read_rows)) (sym (assignment_row c))
      (if_kept reads.assignment (AssignmentAgrees read_rows) (row_at callsign_cmp assignment_key r.assignments c)
      (λ a e passes. assignment_agreed c a e))

  in_turn : (v : Vehicle) (n : ℕ) (t : Turn) → t.order ≡ n → n ≤ v.last_order
      → room.OpenAgrees v n t t.ended → (b : Bool) → IsInTurn t (cond b (Some v) None)
  in_turn v n t numbered below h true = (
    subst (λ m. m ≤ v.last_order) (sym numbered) below,
    λ e. numbered ∙ (open_holder v n t t.ended h (ap (λ (o : Option ℕ). is_none o) e)).0,
  )
  in_turn v n t numbered below h false = tt

  turn_agreed : (c : Callsign) (n : ℕ) (t : Turn)
      → row_at numbered_cmp turn_key r.turns (c, n) ≡ Some t → TurnAgrees read_rows c t
  turn_agreed c n t e =
      let numbered : t.order ≡ n = subst (λ o. IfSome o (λ x. x.order ≡ n)) e (turn_order r formed c n) in
      (elim (row_at callsign_cmp vehicle_key r.vehicles c) as (λ o.
      row_at callsign_cmp vehicle_key r.vehicles c ≡ o → room.TurnAgrees o n (Some t) → TurnAgrees read_rows c t) [
        | None ↦ λ f h. absurd h
        | Some v ↦
            λ f h. (
              subst (λ m. 1 ≤ m) (sym numbered) h.0,
              subst (IsInTurn t) (sym (vehicle_row c ∙ ap (keep reads.vehicle) f))
                  (in_turn v n t numbered h.1 h.2 (reads.vehicle v)),
            )
      ]) refl (subst (λ o. room.TurnAgrees (row_at callsign_cmp vehicle_key r.vehicles c) n o) e (formed.turns c n))

  turns_agreed : (c : Callsign) (n : ℕ) → IfSome (turn_at c n read_rows) (TurnAgrees read_rows c)
  turns_agreed c n =
      subst (λ o. IfSome o (TurnAgrees read_rows c)) (sym (turn_row c n))
      (if_kept reads.turn (TurnAgrees read_rows c) (row_at numbered_cmp turn_key r.turns (c, n))
      (λ t e passes. turn_agreed c n t e))

  read_share : IsShare d read_rows
  read_share = record {
    owned = record {
      divisions = all_filter _ _ reads.own_division r.divisions;
      incidents = all_filter _ _ reads.own_incident r.incidents;
      calls = all_filter _ _ reads.own_call r.calls;
      vehicles = all_filter _ _ reads.own_vehicle r.vehicles;
      turns = all_filter _ _ reads.own_turn r.turns;
      assignments = all_filter _ _ reads.own_assignment r.assignments;
      points = all_filter _ _ reads.own_point r.points;
      loans = all_filter _ _ reads.own_loan r.loans;
      offers = all_filter _ _ reads.own_offer r.offers;
      reports = all_filter _ _ reads.own_report r.reports;
    };
    vehicles = vehicles_agreed;
    assignments = assignments_agreed;
    turns = turns_agreed;
  }

-- ---- the whole share, and the working rows
abbrev rows_of : Room → DivisionRows
rows_of r = record {
  divisions = r.divisions;
  incidents = r.incidents;
  calls = r.calls;
  vehicles = r.vehicles;
  turns = r.turns;
  assignments = r.assignments;
  points = r.points;
  loans = r.loans;
  offers = r.offers;
  reports = r.reports;
}

abbrev reads_all : (d : ℕ) → Reads d
reads_all d = record {
  division = owns_division d;
  incident = owns_incident d;
  call = owns_call d;
  vehicle = owns_vehicle d;
  turn = owns_turn d;
  assignment = owns_assignment d;
  point = owns_point d;
  loan = owns_loan d;
  offer = owns_offer d;
  report = owns_report d;
  own_division = λ x h. h;
  own_incident = λ x h. h;
  own_call = λ x h. h;
  own_vehicle = λ x h. h;
  own_turn = λ x h. h;
  own_assignment = λ x h. h;
  own_point = λ x h. h;
  own_loan = λ x h. h;
  own_offer = λ x h. h;
  own_report = λ x h. h;
}

pub share_is_slice : (d : ℕ) (r : Room) (s : DivisionRows) → IsWellFormed r
    → room_of r.plan s ≡ own d r → IsShare d s
share_is_slice d r s formed e = subst (IsShare d) (sym (ap rows_of e)) (read_share d r formed (reads_all d))

abbrev reads_working : (d : ℕ) (a : Ask) (at : ℕ) (r : Room) → Reads d
reads_working d a at r = record {
  division = λ x. owns_division d x && reads_division a;
  incident = λ i. i.division == d && reads_incident a at i;
  call = λ c. c.division == d && (reads_calls a && reads_number d a r c.incident);
  vehicle = λ v. owns_vehicle d v && reads_vehicle a v.callsign;
  turn = λ t. t.division == d && (reads_number d a r t.incident || names_turn d a r t);
  assignment = λ x. owns_assignment d x && reads_assignments a;
  point = λ p. owns_point d p && reads_point a p.number;
  loan = λ l. owns_loan d l && reads_loan a l.callsign;
  offer = λ o. owns_offer d o && reads_offer a o.callsign;
  report = λ x. owns_report d x && reads_report a x;
  own_division = λ x h. left_true _ _ h;
  own_incident = λ x h. left_true _ _ h;
  own_call = λ x h. left_true _ _ h;
  own_vehicle = λ x h. left_true _ _ h;
  own_turn = λ x h. left_true _ _ h;
  own_assignment = λ x h. left_true _ _ h;
  own_point = λ x h. left_true _ _ h;
  own_loan = λ x h. left_true _ _ h;
  own_offer = λ x h. left_true _ _ h;
  own_report = λ x h. left_true _ _ h;
}

pub working_is_slice : (d : ℕ) (a : Ask) (at : ℕ) (r : Room) (s : DivisionRows) → IsWellFormed r
    → room_of r.plan s ≡ working d a at r → IsShare d s
working_is_slice d a at r s formed e =
    subst (IsShare d) (sym (ap rows_of e)) (read_share d r formed (reads_working d a at r))
