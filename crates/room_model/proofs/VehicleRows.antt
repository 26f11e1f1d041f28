-- The rows of one vehicle, and what a change does to them.
use Rattle.std.proofs.Common.{ap, sym, ◌∙◌}
use Rattle.std.proofs.lemmas.Cmp.{tied_itself}
use Rattle.std.specs.Cmp.{IsTotalOrder}
use Rattle.std.specs.Ordering.{is_eq, nat_cmp, ordering_then}
use Rattle.std.specs.Prelude.{Bool, List, None, Option, Some, [], cond, false, option_map, refl, ℕ}
use Rattle.std.specs.Prelude.{◌++◌, ◌∷◌, ◌≡◌}
use Rattle.std.specs.declared.cmp.Ordering.{Ordering}
use Rattle.std.specs.declared.cmp.Ordering.TheVariants.{Equal, Greater, Less}
use Rattle.room_types.proofs.KeyedLaws.{row_drop_other, row_drop_same, row_put}
use Rattle.room_types.specs.KeyedRows.{drop_row, put_row, row_at}
use Rattle.room_types.specs.Keys.{assignment_key, callsign_cmp, loan_key, numbered_cmp, offer_key}
use Rattle.room_types.specs.Keys.{report_key, turn_key, vehicle_key}
use Rattle.room_types.specs.KeyLemmas.{callsigns_total, exact_callsigns, numbered_total}
use Rattle.room_types.specs.Texts.{Callsign}
use Rattle.room_types.specs.declared.changes.Change.{Change}
use Rattle.room_types.specs.declared.changes.Change.TheVariants.{DropAssignment, DropLoan}
use Rattle.room_types.specs.declared.changes.Change.TheVariants.{DropOffer, PutAssignment, PutCall}
use Rattle.room_types.specs.declared.changes.Change.TheVariants.{PutDivision, PutIncident, PutLoan}
use Rattle.room_types.specs.declared.changes.Change.TheVariants.{PutOffer, PutPoint, PutReport}
use Rattle.room_types.specs.declared.changes.Change.TheVariants.{PutTurn, PutVehicle, Settle}
use Rattle.room_types.specs.declared.codes.Status.TheVariants.{Available}
use Rattle.room_types.specs.declared.tables.Assignment.{Assignment}
use Rattle.room_types.specs.declared.tables.Loan.{Loan}
use Rattle.room_types.specs.declared.tables.Offer.{Offer}
use Rattle.room_types.specs.declared.tables.Report.{Report}
use Rattle.room_types.specs.declared.tables.Turn.{Turn}
use Rattle.room_types.specs.declared.tables.Vehicle.{Vehicle}
use Rattle.room_model.proofs.OwnChanges.{in_order_one}
use Rattle.room_model.proofs.Tests.{row_key}
use Rattle.room_model.specs.Room.{IsInOrder, Room, apply, apply_one, settled}

-- what the lists have of one callsign
pub record VehicleRows : Type 0 where
  pub vehicle : Option Vehicle
  pub loan : Option Loan
  pub offer : Option Offer
  pub assignment : Option Assignment
  pub turn : ℕ → Option Turn
  pub report : ℕ → Option Report

abbrev pub rows_of : Callsign → Room → VehicleRows
rows_of c r = record {
  vehicle = row_at callsign_cmp vehicle_key r.vehicles c;
  loan = row_at callsign_cmp loan_key r.loans c;
  offer = row_at callsign_cmp offer_key r.offers c;
  assignment = row_at callsign_cmp assignment_key r.assignments c;
  turn = λ n. row_at numbered_cmp turn_key r.turns (c, n);
  report = λ n. row_at numbered_cmp report_key r.reports (c, n);
}

-- the room without its vehicles' rows
abbrev pub bare : Room → Room
bare r = record r { vehicles = []; turns = []; assignments = []; loans = []; offers = []; reports = [] }

-- the change is of this vehicle's rows
abbrev pub Concerns : Callsign → Change → Type 0
Concerns k (PutDivision x) = ⊥
Concerns k (PutIncident x) = ⊥
Concerns k (PutCall x) = ⊥
Concerns k (PutPoint x) = ⊥
Concerns k (PutVehicle x) = x.callsign ≡ k
Concerns k (PutTurn x) = x.callsign ≡ k
Concerns k (PutAssignment x) = x.callsign ≡ k
Concerns k (PutLoan x) = x.callsign ≡ k
Concerns k (PutOffer x) = x.callsign ≡ k
Concerns k (PutReport x) = x.callsign ≡ k
Concerns k (DropAssignment c) = c ≡ k
Concerns k (DropLoan c) = c ≡ k
Concerns k (DropOffer c) = c ≡ k
Concerns k (Settle c d) = c ≡ k

abbrev pub AllConcern : Callsign → List Change → Type 0
AllConcern k [] = Unit {0}
AllConcern k (x ∷ xs) = Concerns k x × AllConcern k xs

-- a row in its number's place
abbrev pub put_at : {X : Type 0} → ℕ → X → (ℕ → Option X) → ℕ → Option X
put_at m x f n = cond (is_eq (nat_cmp n m)) (Some x) (f n)

abbrev pub settle : ℕ → Vehicle → Vehicle
settle d v = record v { holder = d; status = Available }

abbrev pub rows_after : VehicleRows → Change → VehicleRows
rows_after p (PutVehicle x) = record p { vehicle = Some x }
rows_after p (PutTurn x) = record p { turn = put_at x.order x p.turn }
rows_after p (PutAssignment x) = record p { assignment = Some x }
rows_after p (PutLoan x) = record p { loan = Some x }
rows_after p (PutOffer x) = record p { offer = Some x }
rows_after p (PutReport x) = record p { report = put_at x.number x p.report }
rows_after p (DropAssignment c) = record p { assignment = None }
rows_after p (DropLoan c) = record p { loan = None }
rows_after p (DropOffer c) = record p { offer = None }
rows_after p (Settle c d) = record p { vehicle = option_map (settle d) p.vehicle }
rows_after p (PutDivision x) = p
rows_after p (PutIncident x) = p
rows_after p (PutCall x) = p
rows_after p (PutPoint x) = p

abbrev pub all_after : VehicleRows → List Change → VehicleRows
all_after p [] = p
all_after p (x ∷ xs) = all_after (rows_after p x) xs

module _ {R K : Type 0} (cmp : K → K → Ordering) (key : R → K) (total : IsTotalOrder cmp) where
  pub put_here : (xs : List R) (x : R) (k : K) → key x ≡ k
      → row_at cmp key (put_row cmp key xs x) k ≡ Some x
  put_here xs x k e =
      row_put cmp key total xs x k
      ∙ ap (λ (o : Ordering). cond (is_eq o) (Some x) (row_at cmp key xs k)) (ap (cmp k) e ∙ tied_itself total k)

  pub put_other : (xs : List R) (x : R) (k : K) → is_eq (cmp k (key x)) ≡ false
      → row_at cmp key (put_row cmp key xs x) k ≡ row_at cmp key xs k
  put_other xs x k e = row_put cmp key total xs x k ∙ ap (λ (b : Bool). cond b (Some x) (row_at cmp key xs k)) e

-- a number beside the callsign
beside : (k c : Callsign) (o : Ordering) → c ≡ k
    → is_eq (ordering_then (callsign_cmp k c) o) ≡ is_eq o
beside k c o e =
    ap (λ (x : Ordering). is_eq (ordering_then x o)) (ap (callsign_cmp k) e ∙ tied_itself callsigns_total k)

apart_then : (o p : Ordering) → is_eq o ≡ false → is_eq (ordering_then o p) ≡ false
apart_then Less p e = refl
apart_then Equal p e = cc
apart_then Greater p e = refl

settled_here : (k : Callsign) (d : ℕ) (xs : List Vehicle) (o : Option Vehicle)
    → row_at callsign_cmp vehicle_key xs k ≡ o
    → row_at callsign_cmp vehicle_key (settled o d xs) k ≡ option_map (settle d) o
settled_here k d xs None e = e
settled_here k d xs (Some v) e =
    put_here callsign_cmp vehicle_key callsigns_total xs (settle d v) k
    (sym (row_key callsign_cmp vehicle_key callsigns_total exact_callsigns xs k v e))

settled_other : (c k : Callsign) (d : ℕ) (xs : List Vehicle) (o : Option Vehicle)
    → row_at callsign_cmp vehicle_key xs k ≡ o → is_eq (callsign_cmp c k) ≡ false
    → row_at callsign_cmp vehicle_key (settled o d xs) c ≡ row_at callsign_cmp vehicle_key xs c
settled_other c k d xs None e apart = refl
settled_other c k d xs (Some v) e apart =
    put_other callsign_cmp vehicle_key callsigns_total xs (settle d v) c
    (ap (λ j. is_eq (callsign_cmp c j))
    (sym (row_key callsign_cmp vehicle_key callsigns_total exact_callsigns xs k v e)) ∙ apart)

module _ (k : Callsign) (r : Room) (w : IsInOrder r) where
  -- what a change does to the vehicle's rows
  changed_one : (x : Change) → Concerns k x → rows_of k (apply_one r x) ≡ rows_after (rows_of k r) x
  changed_one (PutVehicle x) e =
      ap (λ o. record (rows_of k r) { vehicle = o })
      (put_here callsign_cmp vehicle_key callsigns_total r.vehicles x k e)
  changed_one (PutAssignment x) e =
      ap (λ o. record (rows_of k r) { assignment = o })
      (put_here callsign_cmp assignment_key callsigns_total r.assignments x k e)
  changed_one (PutLoan x) e =
      ap (λ o. record (rows_of k r) { loan = o }) (put_here callsign_cmp loan_key callsigns_total r.loans x k e)
  changed_one (PutOffer x) e =
      ap (λ o. record (rows_of k r) { offer = o }) (put_here callsign_cmp offer_key callsigns_total r.offers x k e)
  changed_one (PutTurn x) e =
      ap (λ (f : ℕ → Option Turn). record (rows_of k r) { turn = f })
      (λ i n.
      (row_put numbered_cmp turn_key numbered_total r.turns x (k, n)
      ∙ ap (λ (b : Bool). cond b (Some x) (row_at numbered_cmp turn_key r.turns (k, n)))
      (beside k x.callsign (nat_cmp n x.order) e)) i)
  changed_one (PutReport x) e =
      ap (λ (f : ℕ → Option Report). record (rows_of k r) { report = f })
      (λ i n.
      (row_put numbered_cmp report_key numbered_total r.reports x (k, n)
      ∙ ap (λ (b : Bool). cond b (Some x) (row_at numbered_cmp report_key r.reports (k, n)))
      (beside k x.callsign (nat_cmp n x.number) e)) i)
  changed_one (DropAssignment c) e =
      ap (λ o. record (rows_of k r) { assignment = o }) (ap
      (λ j. row_at callsign_cmp assignment_key (drop_row callsign_cmp assignment_key r.assignments j) k) e
      ∙ row_drop_same callsign_cmp assignment_key callsigns_total r.assignments k w.assignments)
  changed_one (DropLoan c) e =
      ap (λ o. record (rows_of k r) { loan = o }) (ap
      (λ j. row_at callsign_cmp loan_key (drop_row callsign_cmp loan_key r.loans j) k) e
      ∙ row_drop_same callsign_cmp loan_key callsigns_total r.loans k w.loans)
  changed_one (DropOffer c) e =
      ap (λ o. record (rows_of k r) { offer = o }) (ap
      (λ j. row_at callsign_cmp offer_key (drop_row callsign_cmp offer_key r.offers j) k) e
      ∙ row_drop_same callsign_cmp offer_key callsigns_total r.offers k w.offers)
  changed_one (Settle c d) e =
      ap (λ o. record (rows_of k r) { vehicle = o }) (ap
      (λ j. row_at callsign_cmp vehicle_key (settled (row_at callsign_cmp vehicle_key r.vehicles j) d r.vehicles) k) e
      ∙ settled_here k d r.vehicles _ refl)
  changed_one (PutDivision x) e = absurd e
  changed_one (PutIncident x) e = absurd e
  changed_one (PutCall x) e = absurd e
  changed_one (PutPoint x) e = absurd e

  -- it leaves another vehicle's rows
  others_one : (c : Callsign) (x : Change) → Concerns k x → is_eq (callsign_cmp c k) ≡ false
      → rows_of c (apply_one r x) ≡ rows_of c r
  others_one c (PutVehicle x) e apart =
      ap (λ o. record (rows_of c r) { vehicle = o })
      (put_other callsign_cmp vehicle_key callsigns_total r.vehicles x c (ap (λ j. is_eq (callsign_cmp c j)) e ∙ apart))
  others_one c (PutAssignment x) e apart =
      ap (λ o. record (rows_of c r) { assignment = o }) (put_other callsign_cmp assignment_key callsigns_total
      r.assignments x c (ap (λ j. is_eq (callsign_cmp c j)) e ∙ apart))
  others_one c (PutLoan x) e apart =
      ap (λ o. record (rows_of c r) { loan = o })
      (put_other callsign_cmp loan_key callsigns_total r.loans x c (ap (λ j. is_eq (callsign_cmp c j)) e ∙ apart))
  others_one c (PutOffer x) e apart =
      ap (λ o. record (rows_of c r) { offer = o })
      (put_other callsign_cmp offer_key callsigns_total r.offers x c (ap (λ j. is_eq (callsign_cmp c j)) e ∙ apart))
  others_one c (PutTurn x) e apart =
      ap (λ (f : ℕ → Option Turn). record (rows_of c r) { turn = f })
      (λ i n.
      put_other numbered_cmp turn_key numbered_total r.turns x (c, n)
      (apart_then (callsign_cmp c x.callsign) _ (ap (λ j. is_eq (callsign_cmp c j)) e ∙ apart)) i)
  others_one c (PutReport x) e apart =
      ap (λ (f : ℕ → Option Report). record (rows_of c r) { report = f })
      (λ i n.
      put_other numbered_cmp report_key numbered_total r.reports x (c, n)
      (apart_then (callsign_cmp c x.callsign) _ (ap (λ j. is_eq (callsign_cmp c j)) e ∙ apart)) i)
  others_one c (DropAssignment j) e apart =
      ap (λ o. record (rows_of c r) { assignment = o }) (row_drop_other callsign_cmp assignment_key callsigns_total
      r.assignments j c (ap (λ j. is_eq (callsign_cmp c j)) e ∙ apart))
  others_one c (DropLoan j) e apart =
      ap (λ o. record (rows_of c r) { loan = o })
      (row_drop_other callsign_cmp loan_key callsigns_total r.loans j c (ap (λ j. is_eq (callsign_cmp c j)) e ∙ apart))
  others_one c (DropOffer j) e apart =
      ap (λ o. record (rows_of c r) { offer = o }) (row_drop_other callsign_cmp offer_key callsigns_total r.offers j c
      (ap (λ j. is_eq (callsign_cmp c j)) e ∙ apart))
  others_one c (Settle j d) e apart =
      ap (λ o. record (rows_of c r) { vehicle = o })
      (settled_other c j d r.vehicles _ refl (ap (λ j. is_eq (callsign_cmp c j)) e ∙ apart))
  others_one c (PutDivision x) e apart = absurd e
  others_one c (PutIncident x) e apart = absurd e
  others_one c (PutCall x) e apart = absurd e
  others_one c (PutPoint x) e apart = absurd e

-- it leaves what is no vehicle's
bare_one : (k : Callsign) (r : Room) (x : Change) → Concerns k x → bare (apply_one r x) ≡ bare r
bare_one k r (PutVehicle x) e = refl
bare_one k r (PutAssignment x) e = refl
bare_one k r (PutLoan x) e = refl
bare_one k r (PutOffer x) e = refl
bare_one k r (PutTurn x) e = refl
bare_one k r (PutReport x) e = refl
bare_one k r (DropAssignment j) e = refl
bare_one k r (DropLoan j) e = refl
bare_one k r (DropOffer j) e = refl
bare_one k r (Settle j d) e = refl
bare_one k r (PutDivision x) e = absurd e
bare_one k r (PutIncident x) e = absurd e
bare_one k r (PutCall x) e = absurd e
bare_one k r (PutPoint x) e = absurd e

-- likewise changes in order
pub changed : (k : Callsign) (r : Room) (xs : List Change) → IsInOrder r → AllConcern k xs
    → rows_of k (apply r xs) ≡ all_after (rows_of k r) xs
changed k r [] w e = refl
changed k r (x ∷ xs) w e =
    changed k (apply_one r x) xs (in_order_one r x w) e.1 ∙ ap (λ p. all_after p xs) (changed_one k r w x e.0)

pub others_stay : (k : Callsign) (r : Room) (xs : List Change) (c : Callsign) → IsInOrder r
    → AllConcern k xs → is_eq (callsign_cmp c k) ≡ false → rows_of c (apply r xs) ≡ rows_of c r
others_stay k r [] c w e apart = refl
others_stay k r (x ∷ xs) c w e apart =
    others_stay k (apply_one r x) xs c (in_order_one r x w) e.1 apart ∙ others_one k r w c x e.0 apart

pub bare_stays : (k : Callsign) (r : Room) (xs : List Change) → AllConcern k xs
    → bare (apply r xs) ≡ bare r
bare_stays k r [] e = refl
bare_stays k r (x ∷ xs) e = bare_stays k (apply_one r x) xs e.1 ∙ bare_one k r x e.0

pub all_concern : (k : Callsign) (xs ys : List Change) → AllConcern k xs → AllConcern k ys
    → AllConcern k (xs ++ ys)
all_concern k [] ys e f = f
all_concern k (x ∷ xs) ys e f = (e.0, all_concern k xs ys e.1 f)
