-- Changes that spare what stays behind are made alike without it, and leave it as it is.
use Rattle.std.proofs.Common.{ap, arith, subst, sym, ◌∙◌}
use Rattle.std.specs.Cmp.{IsTotalOrder}
use Rattle.std.specs.Ordering.{match_ordering}
use Rattle.std.specs.Prelude.{Bool, List, None, Option, Some, [], cond, false, filter, is_some, max}
use Rattle.std.specs.Prelude.{not, refl, true, ℕ, ◌<◌, ◌==◌, ◌∷◌, ◌≡◌}
use Rattle.std.specs.declared.cmp.Ordering.{Ordering}
use Rattle.std.specs.declared.cmp.Ordering.TheVariants.{Equal, Greater, Less}
use Rattle.room_types.proofs.KeyedLaws.{filter_put}
use Rattle.room_types.specs.KeyedRows.{IsKeyed, drop_row, keep, put_row, row_at}
use Rattle.room_types.specs.Keys.{call_key, callsign_cmp, incident_key, numbered_cmp, pair_cmp}
use Rattle.room_types.specs.Keys.{report_key, turn_key, vehicle_key}
use Rattle.room_types.specs.KeyLemmas.{callsigns_total, exact_callsigns, exact_numbered, exact_pair}
use Rattle.room_types.specs.KeyLemmas.{numbered_total, pairs_total}
use Rattle.room_types.specs.Texts.{Callsign}
use Rattle.room_types.specs.declared.changes.Change.{Change}
use Rattle.room_types.specs.declared.changes.Change.TheVariants.{DropAssignment, DropLoan}
use Rattle.room_types.specs.declared.changes.Change.TheVariants.{DropOffer, PutAssignment, PutCall}
use Rattle.room_types.specs.declared.changes.Change.TheVariants.{PutDivision, PutIncident, PutLoan}
use Rattle.room_types.specs.declared.changes.Change.TheVariants.{PutOffer, PutPoint, PutReport}
use Rattle.room_types.specs.declared.changes.Change.TheVariants.{PutTurn, PutVehicle, Settle}
use Rattle.room_types.specs.declared.tables.Call.{Call}
use Rattle.room_types.specs.declared.tables.Incident.{Incident}
use Rattle.room_types.specs.declared.tables.Report.{Report}
use Rattle.room_types.specs.declared.tables.Turn.{Turn}
use Rattle.room_types.specs.declared.tables.Vehicle.{Vehicle}
use Rattle.room_model.proofs.Changes.{AllOf}
use Rattle.room_model.proofs.IncidentChanges.{calls_put, incidents_put, put_rows, vehicles_put}
use Rattle.room_model.proofs.OwnChanges.{in_order_one}
use Rattle.room_model.proofs.Tests.{row_key}
use Rattle.room_model.specs.Queries.{greatest_serial, incident_of, kept_call, kept_report}
use Rattle.room_model.specs.Queries.{last_serial, vehicle_at}
use Rattle.room_model.specs.Room.{IsInOrder, Room, apply, apply_one, settled}
use Rattle.dispatch_room_archive.proofs.RowsLeft.{kept_is}
use Rattle.dispatch_room_archive.specs.Continuation.{IsOver, IsSettled, StaysBehind}
use Rattle.dispatch_room_archive.specs.Successor.{Behind, without}

-- no row is put that stayed behind, or belongs to what did; a vehicle's reports go on from there
abbrev pub Spares : Behind → Change → Type 0
Spares b (PutIncident x) = b.incident x.division x.number ≡ false
Spares b (PutCall x) =
    (b.call x.position x.serial ≡ false) × (b.incident x.division x.incident ≡ false)
Spares b (PutTurn x) = b.incident x.division x.incident ≡ false
Spares b (PutReport x) = b.report x.callsign x.number ≡ false
Spares b (PutVehicle x) = (n : ℕ) → b.report x.callsign n ≡ true → n < x.last_report
Spares b x = Unit {0}

-- ---- made alike
put_passing : {R K : Type 0} (cmp : K → K → Ordering) (key : R → K) (total : IsTotalOrder cmp)
    (p : R → Bool) (xs : List R) (x : R) → IsKeyed cmp key xs → p x ≡ true
    → filter p (put_row cmp key xs x) ≡ put_row cmp key (filter p xs) x
put_passing {R} {K} cmp key total p xs x h e =
    filter_put cmp key total p xs x h
    ∙ ap (λ (z : Bool). cond z (put_row cmp key (filter p xs) x) (drop_row cmp key (filter p xs) (key x))) e

module _ (b : Behind) where
  pub without_one : (r : Room) (x : Change) → IsInOrder r → Spares b x
      → without b (apply_one r x) ≡ apply_one (without b r) x
  without_one r (PutIncident x) order q =
      ap (λ (xs : List Incident). record (without b r) { incidents = xs })
      (put_passing pair_cmp incident_key pairs_total (λ i. not (b.incident i.division i.number)) r.incidents x
      order.incidents (ap not q))
  without_one r (PutCall x) order q =
      ap (λ (xs : List Call). record (without b r) { calls = xs })
      (put_passing pair_cmp call_key pairs_total (λ c. not (b.call c.position c.serial)) r.calls x order.calls
      (ap not q.0))
  without_one r (PutTurn x) order q =
      ap (λ (xs : List Turn). record (without b r) { turns = xs })
      (put_passing numbered_cmp turn_key numbered_total (λ t. not (b.incident t.division t.incident)) r.turns x
      order.turns (ap not q))
  without_one r (PutReport x) order q =
      ap (λ (xs : List Report). record (without b r) { reports = xs })
      (put_passing numbered_cmp report_key numbered_total (λ y. not (b.report y.callsign y.number)) r.reports x
      order.reports (ap not q))
  without_one r (PutDivision x) order q = refl
  without_one r (PutVehicle x) order q = refl
  without_one r (PutAssignment x) order q = refl
  without_one r (PutPoint x) order q = refl
  without_one r (PutLoan x) order q = refl
  without_one r (PutOffer x) order q = refl
  without_one r (DropAssignment c) order q = refl
  without_one r (DropLoan c) order q = refl
  without_one r (DropOffer c) order q = refl
  without_one r (Settle c d) order q = refl

  pub without_all : (r : Room) (xs : List Change) → IsInOrder r → AllOf (Spares b) xs
      → without b (apply r xs) ≡ apply (without b r) xs
  without_all r [] order q = refl
  without_all r (x ∷ xs) order q =
      without_all (apply_one r x) xs (in_order_one r x order) q.1 ∙ ap (λ s. apply s xs) (without_one r x order q.0)

-- ---- the greatest serial, with one more call
abbrev more : Bool → ℕ → ℕ → ℕ
more counts n m = cond counts (max n m) m

abbrev greatest_of : ℕ → List Call → ℕ
greatest_of p cs = greatest_serial (filter (λ c. c.position == p) cs)

greatest_more : (p : ℕ) (c : Call) (cs : List Call)
    → greatest_of p (c ∷ cs) ≡ more (c.position == p) c.serial (greatest_of p cs)
greatest_more p c cs = of (c.position == p)
  where
    of : (counts : Bool)
        → greatest_serial (cond counts (c ∷ filter (λ c. c.position == p) cs) (filter (λ c. c.position == p) cs))
        ≡ more counts c.serial (greatest_of p cs)
    of true = refl
    of false = refl

more_twice : (x : Bool) (n m : ℕ) → more x n (more x n m) ≡ more x n m
more_twice true n m = omega arith
more_twice false n m = refl

more_turned : (x y : Bool) (n m k : ℕ) → more y m (more x n k) ≡ more x n (more y m k)
more_turned true true n m k = omega arith
more_turned true false n m k = refl
more_turned false y n m k = refl

serial_put : (p : ℕ) (cs : List Call) (x : Call)
    → greatest_of p (put_row pair_cmp call_key cs x)
    ≡ more (x.position == p) x.serial (greatest_of p cs)
serial_put p [] x = greatest_more p x []
serial_put p (y ∷ ys) x =
    (elim (pair_cmp (call_key x) (call_key y)) as (λ (o : Ordering).
    pair_cmp (call_key x) (call_key y) ≡ o
    → greatest_of p (match_ordering o (x ∷ y ∷ ys) (x ∷ ys) (y ∷ put_row pair_cmp call_key ys x))
    ≡ more (x.position == p) x.serial (greatest_of p (y ∷ ys))) [
      | Less ↦ λ e. greatest_more p x (y ∷ ys)
      | Equal ↦ λ e.
          let same : call_key x ≡ call_key y = exact_pair (call_key x) (call_key y) e in
          greatest_more p x ys
          ∙ (sym (more_twice (x.position == p) x.serial (greatest_of p ys))
          ∙ (ap (λ (k : ℕ × ℕ). more (x.position == p) x.serial (more (k.0 == p) k.1 (greatest_of p ys))) same
          ∙ ap (more (x.position == p) x.serial) (sym (greatest_more p y ys))))
      | Greater ↦ λ e.
          greatest_more p y (put_row pair_cmp call_key ys x)
          ∙ (ap (more (y.position == p) y.serial) (serial_put p ys x)
          ∙ (more_turned (x.position == p) (y.position == p) x.serial y.serial (greatest_of p ys)
          ∙ ap (more (x.position == p) x.serial) (sym (greatest_more p y ys))))
    ]) refl

-- ---- left as it is
settled_more : (v : Option Vehicle) (x : Vehicle) (n : ℕ) (o : Option Report)
    → n < x.last_report → IsSettled v n o → IsSettled (Some x) n o
settled_more v x n None less g = absurd g
settled_more None x n (Some y) less g = absurd g
settled_more (Some v) x n (Some y) less g = (g.0, less)

module _ (since : ℕ) (b : Behind) where
  -- what a vehicle that is put does to it
  vehicle_put : (r : Room) (x : Vehicle)
      → ((n : ℕ) → b.report x.callsign n ≡ true → n < x.last_report) → StaysBehind since b r
      → StaysBehind since b (apply_one r (PutVehicle x))
  unfolding incident_of kept_call last_serial kept_report vehicle_at
  vehicle_put r x q h = record {
    incidents = h.incidents;
    calls = h.calls;
    serials = h.serials;
    reports =
        λ c n.
        vehicles_put (λ k o. b.report k n ≡ true → IsSettled o n (row_at numbered_cmp report_key r.reports (k, n)))
        r.vehicles x
        (λ e.
        settled_more (row_at callsign_cmp vehicle_key r.vehicles x.callsign) x n _ (q n e) (h.reports x.callsign n e))
        (λ k apart. h.reports k n) c;
  }

  -- a vehicle has more reports than what stayed behind of them
  reports_before : (v : Option Vehicle) (u : Vehicle) (n : ℕ) (o : Option Report) → v ≡ Some u
      → IsSettled v n o → n < u.last_report
  reports_before v u n None e g = absurd g
  reports_before None u n (Some x) e g = absurd g
  reports_before (Some v) u n (Some x) e g =
      let same : v ≡ u = cc in subst (λ (z : Vehicle). n < z.last_report) same g.1

  pub last_after : (r : Room) → StaysBehind since b r → (v : Vehicle)
      → row_at callsign_cmp vehicle_key r.vehicles v.callsign ≡ Some v → (n : ℕ)
      → b.report v.callsign n ≡ true → n < v.last_report
  unfolding kept_report vehicle_at
  last_after r h v there n e =
      reports_before _ v n (row_at numbered_cmp report_key r.reports (v.callsign, n)) there (h.reports v.callsign n e)

  settled_vehicle : (r : Room) (c : Callsign) (d : ℕ) (o : Option Vehicle)
      → row_at callsign_cmp vehicle_key r.vehicles c ≡ o → StaysBehind since b r
      → StaysBehind since b (record r { vehicles = settled o d r.vehicles })
  settled_vehicle r c d None e h = h
  settled_vehicle r c d (Some v) e h =
      vehicle_put r _
      (last_after r h v (subst (λ (k : Callsign). row_at callsign_cmp vehicle_key r.vehicles k ≡ Some v)
      (row_key callsign_cmp vehicle_key callsigns_total exact_callsigns r.vehicles c v e) e)) h

  call_put : (r : Room) (x : Call) → IsInOrder r → Spares b (PutCall x) → StaysBehind since b r
      → StaysBehind since b (apply_one r (PutCall x))
  unfolding incident_of kept_call last_serial kept_report vehicle_at
  call_put r x order q h = record {
    incidents = h.incidents;
    calls =
        λ p s.
        calls_put (λ k o. b.call k.0 k.1 ≡ is_some (keep (λ (c : Call). b.incident c.division c.incident) o)) r.calls x
        (q.0 ∙ sym (kept_is (λ (c : Call). b.incident c.division c.incident) x ∙ q.1)) (λ k apart. h.calls k.0 k.1)
        (p, s);
    serials = λ p.
        ap (greatest_of p) (put_passing pair_cmp call_key pairs_total (λ c. not (b.call c.position c.serial)) r.calls x
        order.calls (ap not q.0))
        ∙ (serial_put p (without b r).calls x
        ∙ (ap (more (x.position == p) x.serial) (h.serials p) ∙ sym (serial_put p r.calls x)));
    reports = h.reports;
  }

  pub stays_one : (r : Room) (x : Change) → IsInOrder r → Spares b x → StaysBehind since b r
      → StaysBehind since b (apply_one r x)
  unfolding incident_of kept_call last_serial kept_report vehicle_at
  stays_one r (PutIncident x) order q h = record {
    incidents =
        λ d n.
        incidents_put (λ k o. b.incident k.0 k.1 ≡ true → IsOver since o) r.incidents x
        (λ e. let spared : b.incident x.division x.number ≡ false = q in cc) (λ k apart. h.incidents k.0 k.1) (d, n);
    calls = h.calls;
    serials = h.serials;
    reports = h.reports;
  }
  stays_one r (PutReport x) order q h = record {
    incidents = h.incidents;
    calls = h.calls;
    serials = h.serials;
    reports =
        λ c n.
        put_rows numbered_cmp report_key numbered_total exact_numbered
        (λ k o. b.report k.0 k.1 ≡ true → IsSettled (row_at callsign_cmp vehicle_key r.vehicles k.0) k.1 o) r.reports x
        (λ e. let spared : b.report x.callsign x.number ≡ false = q in cc) (λ k apart. h.reports k.0 k.1) (c, n);
  }
  stays_one r (PutCall x) order q h = call_put r x order q h
  stays_one r (PutVehicle x) order q h = vehicle_put r x q h
  stays_one r (Settle c d) order q h = settled_vehicle r c d (row_at callsign_cmp vehicle_key r.vehicles c) refl h
  stays_one r (PutTurn x) order q h =
      record { incidents = h.incidents; calls = h.calls; serials = h.serials; reports = h.reports }
  stays_one r (PutDivision x) order q h =
      record { incidents = h.incidents; calls = h.calls; serials = h.serials; reports = h.reports }
  stays_one r (PutAssignment x) order q h =
      record { incidents = h.incidents; calls = h.calls; serials = h.serials; reports = h.reports }
  stays_one r (PutPoint x) order q h =
      record { incidents = h.incidents; calls = h.calls; serials = h.serials; reports = h.reports }
  stays_one r (PutLoan x) order q h =
      record { incidents = h.incidents; calls = h.calls; serials = h.serials; reports = h.reports }
  stays_one r (PutOffer x) order q h =
      record { incidents = h.incidents; calls = h.calls; serials = h.serials; reports = h.reports }
  stays_one r (DropAssignment c) order q h =
      record { incidents = h.incidents; calls = h.calls; serials = h.serials; reports = h.reports }
  stays_one r (DropLoan c) order q h =
      record { incidents = h.incidents; calls = h.calls; serials = h.serials; reports = h.reports }
  stays_one r (DropOffer c) order q h =
      record { incidents = h.incidents; calls = h.calls; serials = h.serials; reports = h.reports }

  pub stays_all : (r : Room) (xs : List Change) → IsInOrder r → AllOf (Spares b) xs
      → StaysBehind since b r → StaysBehind since b (apply r xs)
  stays_all r [] order q h = h
  stays_all r (x ∷ xs) order q h = stays_all (apply_one r x) xs (in_order_one r x order) q.1 (stays_one r x order q.0 h)
