-- A crew is answered by only its vehicle's rows, and changes only them.
use Rattle.std.proofs.Common.{ap, eq-eqb, subst, sym, ◌∙◌}
use Rattle.std.specs.Cmp.{IsTotalOrder}
use Rattle.std.specs.Ordering.{is_eq, ordering_reverse}
use Rattle.std.specs.Prelude.{Bool, List, None, Option, Some, [], cond, filter, is_none, refl, true}
use Rattle.std.specs.Prelude.{ℕ, ◌&&◌, ◌==◌, ◌∷◌, ◌≡◌}
use Rattle.std.specs.declared.cmp.Ordering.{Ordering}
use Rattle.std.specs.declared.cmp.Ordering.TheVariants.{Equal, Greater, Less}
use Rattle.room_place.specs.Choice.{first}
use Rattle.room_types.proofs.KeyedLaws.{filter_drop, filter_put, keyed_filter, row_filter}
use Rattle.room_types.specs.KeyedRows.{IsKeyed, drop_row, keep, put_row}
use Rattle.room_types.specs.Keys.{assignment_key, callsign_cmp, loan_key, numbered_cmp, offer_key}
use Rattle.room_types.specs.Keys.{report_key, same_callsign, turn_key, vehicle_key}
use Rattle.room_types.specs.KeyLemmas.{callsigns_total, exact_numbered, numbered_total}
use Rattle.room_types.specs.Texts.{Callsign}
use Rattle.room_types.specs.declared.asks.Ask.{Ask}
use Rattle.room_types.specs.declared.asks.Press.{Press}
use Rattle.room_types.specs.declared.asks.Who.TheVariants.{Crew}
use Rattle.room_types.specs.declared.changes.Change.{Change}
use Rattle.room_types.specs.declared.changes.Change.TheVariants.{DropAssignment, DropLoan}
use Rattle.room_types.specs.declared.changes.Change.TheVariants.{DropOffer, PutAssignment, PutCall}
use Rattle.room_types.specs.declared.changes.Change.TheVariants.{PutDivision, PutIncident, PutLoan}
use Rattle.room_types.specs.declared.changes.Change.TheVariants.{PutOffer, PutPoint, PutReport}
use Rattle.room_types.specs.declared.changes.Change.TheVariants.{PutTurn, PutVehicle, Settle}
use Rattle.room_types.specs.declared.tables.Assignment.{Assignment}
use Rattle.room_types.specs.declared.tables.Report.{Report}
use Rattle.room_types.specs.declared.tables.Vehicle.{Vehicle}
use Rattle.room_model.proofs.Changes.{all_plain, crew_all, plain_allowed}
use Rattle.room_model.proofs.OwnChanges.{in_order_one}
use Rattle.room_model.proofs.Questions.{question_stays}
use Rattle.room_model.proofs.Tests.{both_true, filter_filter, is_equal, keep_row, right_true}
use Rattle.room_model.specs.Decisions.{changes_of, where_found}
use Rattle.room_model.specs.Events.{by_crew}
use Rattle.room_model.specs.CrewJobs.{job_in, job_of, show_job}
use Rattle.room_model.specs.CrewRows.{in_hand}
use Rattle.room_model.specs.Queries.{assignment_at, borrowed, calls_of, held, incident_of}
use Rattle.room_model.specs.Queries.{kept_report, loan_at, open_turn, vehicle_at}
use Rattle.room_model.specs.Reports.{last_of, order_of, report_held, report_in, report_kept}
use Rattle.room_model.specs.Reports.{report_somewhere}
use Rattle.room_model.specs.Room.{IsInOrder, Room, apply, apply_one}
use Rattle.room_model.specs.Shares.{AgreeOn, AgreeOnJob, ArePlain, IsPlain, mine}
use Rattle.room_model.specs.Step.{crew_asks, room_after, who_asks}
use Rattle.room_types.specs.declared.asks.Ask.TheVariants as ask
use Rattle.room_types.specs.declared.refusal_statuses.Refusal.TheVariants as refusal

-- ---- what two rooms must agree on, for a crew to be answered alike in both
record SeesCrew (c : Callsign) (s r : Room) : Type 0 where
  same_vehicle : vehicle_at c s ≡ vehicle_at c r
  same_assignment : assignment_at c s ≡ assignment_at c r
  same_loan : loan_at c s ≡ loan_at c r
  same_turn : (d : ℕ) → open_turn d c s ≡ open_turn d c r

module _ (c : Callsign) (s r : Room) (sees : SeesCrew c s r) where
  held_same : (d : ℕ) → held d c s ≡ held d c r
  unfolding held vehicle_at
  held_same d = ap (keep (λ v. v.holder == d)) sees.same_vehicle

  borrowed_same : (d : ℕ) → borrowed d c s ≡ borrowed d c r
  unfolding borrowed loan_at
  borrowed_same d = ap (keep (λ l. l.borrower == d)) sees.same_loan

  in_same : (d : ℕ) (p : Press) (at : ℕ) → report_in d c p at s ≡ report_in d c p at r
  unfolding report_in
  in_same d p at i = report_held (held_same d i) (sees.same_turn d i) (borrowed_same d i) p at

  somewhere_same : (o : Option Vehicle) (p : Press) (at : ℕ)
      → report_somewhere o c p at s ≡ report_somewhere o c p at r
  somewhere_same None p at = refl
  somewhere_same (Some v) p at = in_same v.holder p at

  kept_same : (o : Option Report) (p : Press) (at : ℕ)
      → report_kept o c p at s ≡ report_kept o c p at r
  kept_same None p at = ap (λ o. report_somewhere o c p at s) sees.same_vehicle ∙ somewhere_same (vehicle_at c r) p at
  kept_same (Some k) p at = refl

  crew_same : (a : Ask) (at : ℕ) → ((p : Press) → a ≡ ask.Report p
      → kept_report c p.number s ≡ kept_report c p.number r)
      → crew_asks c a at s ≡ crew_asks c a at r
  crew_same ask.Order at h = λ i. order_of (sees.same_vehicle i) (sees.same_assignment i)
  crew_same ask.Last at h = ap last_of sees.same_vehicle
  crew_same (ask.Report p) at h =
      ap (λ o. report_kept o c p at s) (h p refl) ∙ kept_same (kept_report c p.number r) p at
  crew_same a at h = refl

-- ---- its vehicle's rows are enough
turned : (a b : Callsign) → is_eq (callsign_cmp a b) ≡ true → same_callsign b a ≡ true
turned a b e = ap is_eq (callsigns_total.antisymm b a ∙ ap ordering_reverse (is_equal _ e))

module _ (c : Callsign) (r : Room) (order : IsInOrder r) where
  -- the vehicle's rows, beside whatever reports
  abbrev beside : List Report → Room
  beside xs = record (mine c r) { reports = xs }

  sees_beside : (xs : List Report) → SeesCrew c (beside xs) r
  unfolding vehicle_at assignment_at loan_at open_turn
  sees_beside xs = record {
    same_vehicle =
        row_filter callsign_cmp vehicle_key callsigns_total _ r.vehicles c order.vehicles
        ∙ keep_row callsign_cmp vehicle_key _ r.vehicles c (λ x e. turned c x.callsign e);
    same_assignment =
        row_filter callsign_cmp assignment_key callsigns_total _ r.assignments c order.assignments
        ∙ keep_row callsign_cmp assignment_key _ r.assignments c (λ x e. turned c x.callsign e);
    same_loan =
        row_filter callsign_cmp loan_key callsigns_total _ r.loans c order.loans
        ∙ keep_row callsign_cmp loan_key _ r.loans c (λ x e. turned c x.callsign e);
    same_turn =
        λ d.
        ap first
        (filter_filter _ (λ t. same_callsign t.callsign c && is_none t.ended) r.turns
        (λ x h. right_true (x.division == d) _ h));
  }

  -- a report that is looked up by its number passes a test of its callsign and number
  report_kept_by : (p : Report → Bool) (n : ℕ)
      → ((x : Report) → same_callsign x.callsign c ≡ true → n ≡ x.number → p x ≡ true)
      → kept_report c n (beside (filter p r.reports)) ≡ kept_report c n r
  unfolding kept_report
  report_kept_by p n h =
      row_filter numbered_cmp report_key numbered_total p r.reports (c, n) order.reports
      ∙ keep_row numbered_cmp report_key p r.reports (c, n) (λ x e.
      let key : (c, n) ≡ report_key x = exact_numbered (c, n) (report_key x) (is_equal _ e) in
      h x (same_self x.callsign (ap (λ (k : Callsign × ℕ). k.0) key)) (ap (λ (k : Callsign × ℕ). k.1) key))
    where
      alike : (o : Ordering) → o ≡ ordering_reverse o → is_eq o ≡ true
      alike Less e = cc
      alike Equal e = refl
      alike Greater e = cc

      same_self : (k : Callsign) → c ≡ k → same_callsign k c ≡ true
      same_self k e = ap (same_callsign k) e ∙ alike (callsign_cmp k k) (callsigns_total.antisymm k k)

  pub crew_mine : (a : Ask) (at : ℕ) → crew_asks c a at (mine c r) ≡ crew_asks c a at r
  crew_mine a at =
      crew_same c (mine c r) r (sees_beside (mine c r).reports) a at
      (λ p e. report_kept_by (λ x. same_callsign x.callsign c) p.number (λ x k n. k))

  pub order_in_hand : (n at : ℕ) → crew_asks c ask.Order at (in_hand c n r)
      ≡ crew_asks c ask.Order at r
  order_in_hand n at =
      crew_same c (in_hand c n r) r (sees_beside (in_hand c n r).reports) ask.Order at (λ p e. absurd (no_report p e))
    where
      no_report : (p : Press) → ask.Order ≡ ask.Report p → ⊥
      no_report p e = cc

  pub last_in_hand : (n at : ℕ) → crew_asks c ask.Last at (in_hand c n r)
      ≡ crew_asks c ask.Last at r
  last_in_hand n at =
      crew_same c (in_hand c n r) r (sees_beside (in_hand c n r).reports) ask.Last at (λ p e. absurd (no_report p e))
    where
      no_report : (p : Press) → ask.Last ≡ ask.Report p → ⊥
      no_report p e = cc

  pub report_in_hand : (p : Press) (at : ℕ)
      → crew_asks c (ask.Report p) at (in_hand c p.number r) ≡ crew_asks c (ask.Report p) at r
  report_in_hand p at =
      crew_same c (in_hand c p.number r) r (sees_beside (in_hand c p.number r).reports) (ask.Report p) at (λ q e.
      let same : p ≡ q = cc in
      subst (λ z. kept_report c z.number (in_hand c p.number r) ≡ kept_report c z.number r) same
      (report_kept_by (λ x. same_callsign x.callsign c && x.number == p.number) p.number
      (λ x k n. both_true _ _ k (eq-eqb x.number p.number (sym n)))))

-- ---- its vehicle's rows afterwards
-- a put, and a drop, in the rows that pass
module _ {R K : Type 0} (cmp : K → K → Ordering) (key : R → K) (total : IsTotalOrder cmp)
    (p : R → Bool) (xs : List R) (h : IsKeyed cmp key xs) where
  filter_same : filter p (filter p xs) ≡ filter p xs
  filter_same = filter_filter p p xs (λ x e. e)

  put_within : (x : R) → filter p (put_row cmp key (filter p xs) x)
      ≡ filter p (put_row cmp key xs x)
  put_within x =
      filter_put cmp key total p (filter p xs) x (keyed_filter cmp key total p xs h)
      ∙ ap (λ ys. cond (p x) (put_row cmp key ys x) (drop_row cmp key ys (key x))) filter_same
      ∙ sym (filter_put cmp key total p xs x h)

  drop_within : (k : K) → filter p (drop_row cmp key (filter p xs) k)
      ≡ filter p (drop_row cmp key xs k)
  drop_within k =
      filter_drop cmp key total p (filter p xs) k (keyed_filter cmp key total p xs h)
      ∙ ap (λ ys. drop_row cmp key ys k) filter_same
      ∙ sym (filter_drop cmp key total p xs k h)

module _ (c : Callsign) where
  mine_twice : (r : Room) → mine c (mine c r) ≡ mine c r
  mine_twice r i = record {
    plan = [];
    divisions = [];
    incidents = [];
    calls = [];
    vehicles =
        filter_filter (λ x. same_callsign x.callsign c) (λ x. same_callsign x.callsign c) r.vehicles (λ x e. e) i;
    turns =
        filter_filter (λ x. same_callsign x.callsign c && is_none x.ended)
        (λ x. same_callsign x.callsign c && is_none x.ended) r.turns (λ x e. e) i;
    assignments =
        filter_filter (λ x. same_callsign x.callsign c) (λ x. same_callsign x.callsign c) r.assignments (λ x e. e) i;
    points = [];
    loans = filter_filter (λ x. same_callsign x.callsign c) (λ x. same_callsign x.callsign c) r.loans (λ x e. e) i;
    offers = filter_filter (λ x. same_callsign x.callsign c) (λ x. same_callsign x.callsign c) r.offers (λ x e. e) i;
    reports = filter_filter (λ x. same_callsign x.callsign c) (λ x. same_callsign x.callsign c) r.reports (λ x e. e) i;
  }

  in_order_mine : (r : Room) → IsInOrder r → IsInOrder (mine c r)
  in_order_mine r h = record {
    divisions = tt;
    incidents = tt;
    calls = tt;
    vehicles = keyed_filter callsign_cmp vehicle_key callsigns_total _ r.vehicles h.vehicles;
    turns = keyed_filter numbered_cmp turn_key numbered_total _ r.turns h.turns;
    assignments = keyed_filter callsign_cmp assignment_key callsigns_total _ r.assignments h.assignments;
    points = tt;
    loans = keyed_filter callsign_cmp loan_key callsigns_total _ r.loans h.loans;
    offers = keyed_filter callsign_cmp offer_key callsigns_total _ r.offers h.offers;
    reports = keyed_filter numbered_cmp report_key numbered_total _ r.reports h.reports;
  }

  mine_one : (r : Room) (x : Change) → IsInOrder r → IsPlain x
      → mine c (apply_one (mine c r) x) ≡ mine c (apply_one r x)
  mine_one r (PutDivision x) h q = mine_twice r
  mine_one r (PutIncident x) h q = mine_twice r
  mine_one r (PutCall x) h q = mine_twice r
  mine_one r (PutPoint x) h q = mine_twice r
  mine_one r (PutVehicle x) h q =
      λ i. record (mine_twice r i) {
        vehicles =
            put_within callsign_cmp vehicle_key callsigns_total (λ x. same_callsign x.callsign c) r.vehicles h.vehicles
            x i;
      }
  mine_one r (PutTurn x) h q =
      λ i. record (mine_twice r i) {
        turns =
            put_within numbered_cmp turn_key numbered_total (λ x. same_callsign x.callsign c && is_none x.ended) r.turns
            h.turns x i;
      }
  mine_one r (PutAssignment x) h q =
      λ i. record (mine_twice r i) {
        assignments =
            put_within callsign_cmp assignment_key callsigns_total (λ x. same_callsign x.callsign c) r.assignments
            h.assignments x i;
      }
  mine_one r (PutLoan x) h q =
      λ i. record (mine_twice r i)
      { loans = put_within callsign_cmp loan_key callsigns_total (λ x. same_callsign x.callsign c) r.loans h.loans x i }
  mine_one r (PutOffer x) h q =
      λ i. record (mine_twice r i) {
        offers =
            put_within callsign_cmp offer_key callsigns_total (λ x. same_callsign x.callsign c) r.offers h.offers x i;
      }
  mine_one r (PutReport x) h q =
      λ i. record (mine_twice r i) {
        reports =
            put_within numbered_cmp report_key numbered_total (λ x. same_callsign x.callsign c) r.reports h.reports x i;
      }
  mine_one r (DropAssignment k) h q =
      λ i. record (mine_twice r i) {
        assignments =
            drop_within callsign_cmp assignment_key callsigns_total (λ x. same_callsign x.callsign c) r.assignments
            h.assignments k i;
      }
  mine_one r (DropLoan k) h q =
      λ i. record (mine_twice r i) {
        loans = drop_within callsign_cmp loan_key callsigns_total (λ x. same_callsign x.callsign c) r.loans h.loans k i;
      }
  mine_one r (DropOffer k) h q =
      λ i. record (mine_twice r i) {
        offers =
            drop_within callsign_cmp offer_key callsigns_total (λ x. same_callsign x.callsign c) r.offers h.offers k i;
      }
  mine_one r (Settle k e) h q = absurd q

  mine_apply : (r : Room) (cs : List Change) → IsInOrder r → ArePlain cs
      → mine c (apply (mine c r) cs) ≡ mine c (apply r cs)
  mine_apply r [] h q = mine_twice r
  mine_apply r (x ∷ cs) h q =
      let s = mine c r in
      sym (mine_apply (apply_one s x) cs (in_order_one s x (in_order_mine r h)) q.1)
      ∙ ap (λ t. mine c (apply t cs)) (mine_one r x h q.0)
      ∙ mine_apply (apply_one r x) cs (in_order_one r x h) q.1

  pub mine_after : (a : Ask) (at : ℕ) (r : Room) → IsInOrder r
      → mine c (room_after (by_crew c a at) r) ≡ mine c (room_after (by_crew c a at) (mine c r))
  mine_after ask.Job at r h =
      ap (mine c) (question_stays (by_crew c ask.Job at) r refl) ∙ sym (mine_twice r)
      ∙ sym (ap (mine c) (question_stays (by_crew c ask.Job at) (mine c r) refl))
  mine_after a at r h =
      sym (ap (λ x. mine c (apply (mine c r) (changes_of x))) (crew_mine c r h a at)
      ∙ mine_apply r (changes_of (crew_asks c a at r)) h
      (all_plain (changes_of (crew_asks c a at r)) (crew_all r IsPlain (plain_allowed r) c a at)))

  -- two vehicles with equal rows are answered alike, and have equal rows afterwards
  pub mine_answer : (a : Ask) (at : ℕ) (r s : Room) → IsInOrder r → IsInOrder s
      → mine c r ≡ mine c s → crew_asks c a at r ≡ crew_asks c a at s
  mine_answer a at r s h g same = sym (crew_mine c r h a at) ∙ ap (crew_asks c a at) same ∙ crew_mine c s g a at

  pub mine_equal : (a : Ask) (at : ℕ) (r s : Room) → IsInOrder r → IsInOrder s
      → mine c r ≡ mine c s → mine c (room_after (by_crew c a at) r)
      ≡ mine c (room_after (by_crew c a at) s)
  mine_equal a at r s h g same =
      mine_after a at r h ∙ ap (λ t. mine c (room_after (by_crew c a at) t)) same ∙ sym (mine_after a at s g)

-- ---- whatever is asked
module _ (c : Callsign) (r s : Room) where
  pub agreed_rows : (a : Ask) → AgreeOn (Crew c) a r s → mine c r ≡ mine c s
  agreed_rows ask.Job agree = agree.vehicle
  agreed_rows a agree = agree

  order_same : AgreeOnJob c r s → (o : Option Assignment) → assignment_at c r ≡ o
      → job_in r o ≡ job_in s o
  order_same agree None e = refl
  order_same agree (Some a) e = λ i v. job_of v a (agree.incident a e i) (agree.calls a e i)

  module _ (order : IsInOrder r) (other : IsInOrder s) where
    pub job_same : AgreeOnJob c r s → show_job c r ≡ show_job c s
    job_same agree =
        let here = sees_beside c r order (mine c r).reports in
        let there = sees_beside c s other (mine c s).reports in
        let vehicle : vehicle_at c r
        ≡ vehicle_at c s = sym here.same_vehicle ∙ ap (vehicle_at c) agree.vehicle ∙ there.same_vehicle in
        let assigned : assignment_at c r
        ≡ assignment_at c s = sym here.same_assignment ∙ ap (assignment_at c) agree.vehicle ∙ there.same_assignment in
        ap (λ v. where_found v refusal.NoSuchVehicle (job_in r (assignment_at c r))) vehicle
        ∙ ap (where_found (vehicle_at c s) refusal.NoSuchVehicle)
        (order_same agree (assignment_at c r) refl ∙ ap (job_in s) assigned)

    -- it gets equal answers where the rooms agree on what decides its ask
    pub crew_alike : (a : Ask) (at : ℕ) → AgreeOn (Crew c) a r s
        → who_asks (Crew c) a at r ≡ who_asks (Crew c) a at s
    crew_alike ask.Job at agree = job_same agree
    crew_alike a at agree = mine_answer c a at r s order other agree
