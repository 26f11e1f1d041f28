-- What a vehicle's rows agree on after a desk's ask has changed them.
use Rattle.std.proofs.Common.{ap, arith, subst, sym, ◌∙◌}
use Rattle.std.proofs.lemmas.Cmp.{nat_cmp_total, tied_itself}
use Rattle.std.specs.Ordering.{is_eq, nat_cmp}
use Rattle.std.specs.Prelude.{Bool, IfSome, List, None, Option, Some, cond, false, is_some, not}
use Rattle.std.specs.Prelude.{refl, true, ℕ, ◌+◌, ◌≡◌, ◌≢◌, ◌⊎◌}
use Rattle.room_place.specs.Plans.{has_division}
use Rattle.room_place.specs.declared.plans.Area.{Area}
use Rattle.room_types.specs.KeyedRows.{row_at}
use Rattle.room_types.specs.Keys.{incident_key, pair_cmp}
use Rattle.room_types.specs.KeyLemmas.{exact_number}
use Rattle.room_types.specs.declared.codes.Status.{Status}
use Rattle.room_types.specs.declared.codes.Status.TheVariants.{Mobilised, OffDuty, Offered}
use Rattle.room_types.specs.declared.tables.Assignment.{Assignment}
use Rattle.room_types.specs.declared.tables.Loan.{Loan}
use Rattle.room_types.specs.declared.tables.Offer.{Offer}
use Rattle.room_types.specs.declared.tables.Turn.{Turn}
use Rattle.room_types.specs.declared.tables.Vehicle.{Vehicle}
use Rattle.room_model.proofs.Tests.{is_equal}
use Rattle.room_model.proofs.VehicleAgreements.{Agrees, free_is_idle, like_assignment, like_turn}
use Rattle.room_model.proofs.VehicleRows.{VehicleRows, put_at, settle}
use Rattle.room_types.specs.Codes.{is_busy, is_free, is_mobilised, is_off, is_offered}
use Rattle.room_model.specs.Loans.{offered}
use Rattle.room_model.specs.Room.{Room}
use Rattle.room_types.specs.Slices.{IsActive}
use Rattle.room_model.specs.RoomAgreements.{IsPost, LoanAgrees, OfferAgrees, OpenAgrees}
use Rattle.room_model.specs.RoomAgreements.{ReportAgrees, SameIncident, TurnAgrees, TurnIsActive}

-- statuses by their tests
pub is_true : (b : Bool) → not b ≡ false → b ≡ true
is_true true e = refl
is_true false e = cc

pub off_is : (s : Status) → is_off s ≡ true → s ≡ OffDuty
off_is OffDuty e = refl
off_is s e = cc

pub offered_is : (s : Status) → is_offered s ≡ true → s ≡ Offered
offered_is Offered e = refl
offered_is s e = cc

pub mobilised_is : (s : Status) → is_mobilised s ≡ true → s ≡ Mobilised
mobilised_is Mobilised e = refl
mobilised_is s e = cc

-- a post stays one where the vehicle stays free, with its holder
pub like_post : (s : Room) (v u : Vehicle) (o : Option ℕ)
    → (is_free v.status ≡ true → is_free u.status ≡ true) → u.holder ≡ v.holder → IsPost s v o
    → IsPost s u o
like_post s v u None f e h = tt
like_post s v u (Some n) f e h = (f h.0, rw e h.1)

pub like_offer : (plan : List Area) (v u : Vehicle) (o : Option Offer)
    → is_offered u.status ≡ is_offered v.status → u.holder ≡ v.holder → u.home ≡ v.home
    → OfferAgrees plan (Some v) o → OfferAgrees plan (Some u) o
like_offer plan v u None e f g h = e ∙ h
like_offer plan v u (Some o) e f g h = (e ∙ h.0, h.1 ∙ sym f, h.2 ∙ sym g, h.3, h.4)

-- an offer is of a vehicle at home
pub away_offer : (plan : List Area) (v u : Vehicle) (o : Option Offer) → v.holder ≢ v.home
    → is_offered u.status ≡ is_offered v.status → OfferAgrees plan (Some v) o
    → OfferAgrees plan (Some u) o
away_offer plan v u None away e h = e ∙ h
away_offer plan v u (Some o) away e h = absurd (away (sym h.1 ∙ h.2))

-- what holds at each number, after a row was put at one
pub replaced : {X : Type 0} (P : ℕ → Option X → Type 0) (m : ℕ) (x : X) (f : ℕ → Option X)
    → P m (Some x) → ((n : ℕ) → n ≢ m → P n (f n)) → (n : ℕ) → P n (put_at m x f n)
replaced {X} P m x f here there n =
    (elim (is_eq (nat_cmp n m)) as (λ (b : Bool). is_eq (nat_cmp n m) ≡ b → P n (cond b (Some x) (f n))) [
      | true ↦ λ e. subst (λ k. P k (Some x)) (sym (exact_number n m (is_equal _ e))) here
      | false ↦
          λ e.
          there n (λ same.
          let tied : is_eq (nat_cmp n m)
          ≡ true = ap (λ k. is_eq (nat_cmp n k)) (sym same) ∙ ap is_eq (tied_itself nat_cmp_total n) in
          cc)
    ]) refl

module _ (s : Room) (p : VehicleRows) (v : Vehicle)
    (h : Agrees s (record p { vehicle = Some v })) where
  -- another status for an idle vehicle, that neither begins nor ends an offer
  pub idle_agrees : (u : Vehicle) → is_busy v.status ≡ false → is_busy u.status ≡ false
      → is_offered u.status ≡ is_offered v.status → u.home ≡ v.home → u.holder ≡ v.holder
      → u.last_order ≡ v.last_order → u.last_report ≡ v.last_report → IsPost s u u.post
      → Agrees s (record p { vehicle = Some u })
  idle_agrees u e f offered home holder order report post = record {
    loan =
        subst (λ (x : ℕ × ℕ). LoanAgrees (Some (record u { home = x.0; holder = x.1 })) p.loan)
        (λ i. (sym home i, sym holder i)) h.loan;
    offer = like_offer s.plan v u p.offer offered holder home h.offer;
    assignment = like_assignment v u (f ∙ sym e) (λ b. holder) order p.assignment h.assignment;
    turn = λ n. like_turn v u (f ∙ sym e) (λ b. holder) order n (p.turn n) (h.turn n);
    same_incident = h.same_incident;
    active = h.active;
    report =
        λ n. subst (λ m. ReportAgrees (Some (record u { last_report = m })) n (p.report n)) (sym report) (h.report n);
    last_report = subst (λ m. (m ≡ 0) ⊎ (is_some (p.report m) ≡ true)) (sym report) h.last_report;
    post = post;
    home = rw home h.home;
    holder = rw holder h.holder;
    turn_division = h.turn_division;
    report_division = h.report_division;
  }

  -- an idle vehicle at home that is offered to another division
  pub offered_agrees : (o : Offer) → is_free v.status ≡ true → o.lender ≡ v.holder
      → o.lender ≡ v.home → o.borrower ≢ o.lender → has_division s.plan o.borrower ≡ true
      → Agrees s (record p {
        vehicle = Some
            (record v { status = Offered; post = None });
        offer = Some o;
      })
  offered_agrees o free holder home other there =
      let u : Vehicle = record v { status = Offered; post = None } in
      let idle = (free_is_idle v.status free).0 in
      record {
        loan = h.loan;
        offer = (refl, holder, home, other, there);
        assignment = like_assignment v u (sym idle) (λ b. refl) refl p.assignment h.assignment;
        turn = λ n. like_turn v u (sym idle) (λ b. refl) refl n (p.turn n) (h.turn n);
        same_incident = h.same_incident;
        active = h.active;
        report = h.report;
        last_report = h.last_report;
        post = tt;
        home = h.home;
        holder = h.holder;
        turn_division = h.turn_division;
        report_division = h.report_division;
      }

  -- an offered vehicle that is settled with a division, its offer dropped
  pub settled_agrees : (d : ℕ) (l : Option Loan) → is_offered v.status ≡ true
      → LoanAgrees (Some (settle d v)) l → has_division s.plan d ≡ true
      → Agrees s (record p { vehicle = Some (settle d v); offer = None; loan = l })
  settled_agrees d l offered loan there =
      let u = settle d v in
      let idle : false ≡ is_busy v.status = ap is_busy (sym (offered_is v.status offered)) in
      record {
        loan = loan;
        offer = refl;
        assignment = like_assignment v u idle (λ (b : false ≡ true). cc) refl p.assignment h.assignment;
        turn = λ n. like_turn v u idle (λ (b : false ≡ true). cc) refl n (p.turn n) (h.turn n);
        same_incident = h.same_incident;
        active = h.active;
        report = h.report;
        last_report = h.last_report;
        post = no_post v.post h.post;
        home = h.home;
        holder = there;
        turn_division = h.turn_division;
        report_division = h.report_division;
      }
    where
      no_post : (o : Option ℕ) → IsPost s v o → IsPost s (settle d v) o
      no_post None g = tt
      no_post (Some n) g = let free = ap is_free (sym (offered_is v.status offered)) ∙ g.0 in cc

  -- an idle vehicle that is away, and goes back to its home
  pub returned_agrees : (u : Vehicle) → v.holder ≢ v.home → is_busy v.status ≡ false
      → is_busy u.status ≡ false → is_offered u.status ≡ is_offered v.status → u.home ≡ v.home
      → u.holder ≡ v.home → u.last_order ≡ v.last_order → u.last_report ≡ v.last_report
      → u.post ≡ None → Agrees s (record p { vehicle = Some u; loan = None })
  returned_agrees u away e f offered home holder order report post = record {
    loan = holder ∙ sym home;
    offer = away_offer s.plan v u p.offer away offered h.offer;
    assignment = like_assignment v u (f ∙ sym e) idle order p.assignment h.assignment;
    turn = λ n. like_turn v u (f ∙ sym e) idle order n (p.turn n) (h.turn n);
    same_incident = h.same_incident;
    active = h.active;
    report =
        λ n. subst (λ m. ReportAgrees (Some (record u { last_report = m })) n (p.report n)) (sym report) (h.report n);
    last_report = subst (λ m. (m ≡ 0) ⊎ (is_some (p.report m) ≡ true)) (sym report) h.last_report;
    post = subst (IsPost s u) (sym post) tt;
    home = rw home h.home;
    holder = rw holder h.home;
    turn_division = h.turn_division;
    report_division = h.report_division;
  }
    where
      idle : is_busy u.status ≡ true → u.holder ≡ v.holder
      idle b = cc

  -- an order for a free vehicle
  pub mobilised_agrees : (t : Turn) (a : Assignment) → is_free v.status ≡ true
      → t.order ≡ v.last_order + 1 → t.division ≡ v.holder → t.ended ≡ None → a.division ≡ v.holder
      → a.order ≡ v.last_order + 1 → t.incident ≡ a.incident
      → IsActive (row_at pair_cmp incident_key s.incidents (t.division, t.incident))
      → ((n : ℕ) (x : Turn) → p.turn n ≡ Some x → x.order ≡ n)
      → Agrees s (record p {
        vehicle = Some
            (record v { status = Mobilised; post = None; last_order = v.last_order + 1 });
        turn =
            put_at t.order t p.turn;
        assignment = Some a;
      })
  mobilised_agrees t a free order division unended assigned ordered same active numbered =
      let u : Vehicle = record v { status = Mobilised; post = None; last_order = v.last_order + 1 } in
      let idle = free_is_idle v.status free in
      record {
        loan = h.loan;
        offer = like_offer s.plan v u p.offer (sym idle.1) refl refl h.offer;
        assignment = (refl, assigned, ordered);
        turn =
            replaced (λ n o. TurnAgrees (Some u) n o) t.order t p.turn
            (omega arith, omega arith, subst (OpenAgrees u t.order t) (sym unended) (order, division, refl))
            (λ n other. newer n (p.turn n) idle.0 (λ e. other (e ∙ sym order)) (h.turn n));
        same_incident =
            replaced (λ n o. SameIncident (Some a) o) t.order t p.turn (λ e. same)
            (λ n other. older n (p.turn n) (numbered n) (λ e. other (e ∙ sym order)));
        active = replaced (λ n o. TurnIsActive s o) t.order t p.turn (λ e. active) (λ n other. h.active n);
        report = h.report;
        last_report = h.last_report;
        post = tt;
        home = h.home;
        holder = h.holder;
        turn_division =
            replaced (λ n o. IfSome o (λ t. has_division s.plan t.division ≡ true)) t.order t p.turn
            (rw division h.holder) (λ n other. h.turn_division n);
        report_division = h.report_division;
      }
    where
      newer_open : (n : ℕ) (x : Turn) (o : Option ℕ) → is_busy v.status ≡ false
          → n ≢ v.last_order + 1 → OpenAgrees v n x o
          → OpenAgrees (record v {
            status = Mobilised;
            post = None;
            last_order =
                v.last_order + 1;
          }) n x o
      newer_open n x None idle other g = let busy = g.2 in cc
      newer_open n x (Some at) idle other g = λ e. absurd (other e)

      newer : (n : ℕ) (o : Option Turn) → is_busy v.status ≡ false → n ≢ v.last_order + 1
          → TurnAgrees (Some v) n o → TurnAgrees
          (Some (record v { status = Mobilised; post = None; last_order = v.last_order + 1 })) n o
      newer n None idle other g = λ e. absurd (other e)
      newer n (Some x) idle other g = let least = g.1 in (g.0, omega arith, newer_open n x x.ended idle other g.2)

      older : (n : ℕ) (o : Option Turn) → ((x : Turn) → o ≡ Some x → x.order ≡ n)
          → n ≢ v.last_order + 1 → SameIncident (Some a) o
      older n None numbered other = tt
      older n (Some x) numbered other = λ e. absurd (other (sym (numbered x refl) ∙ (e ∙ ordered)))
