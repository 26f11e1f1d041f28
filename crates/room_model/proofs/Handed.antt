-- What another desk's request hands to a division.
use Rattle.std.proofs.Common.{ap, eq-eqb, eqb-true, subst, sym, ◌∙◌}
use Rattle.std.specs.Cmp.{IsTotalOrder}
use Rattle.std.specs.Ordering.{is_eq, ordering_reverse}
use Rattle.std.specs.Prelude.{Bool, List, None, Option, Some, [], cond, false, filter, is_ok, not}
use Rattle.std.specs.Prelude.{option_map, refl, true, ℕ, ◌&&◌, ◌==◌, ◌||◌, ◌∷◌, ◌≡◌}
use Rattle.std.specs.declared.cmp.Ordering.{Ordering}
use Rattle.std.specs.declared.cmp.Ordering.TheVariants.{Equal, Greater, Less}
use Rattle.room_types.proofs.KeyedLaws.{filter_put, keyed_filter, row_drop_same, row_filter}
use Rattle.room_types.proofs.KeyedLaws.{row_put}
use Rattle.room_types.specs.KeyedRows.{drop_row, keep, put_row, row_at}
use Rattle.room_types.specs.Keys.{callsign_cmp, loan_key, offer_key, owns_loan, owns_offer}
use Rattle.room_types.specs.Keys.{owns_vehicle, vehicle_key}
use Rattle.room_types.specs.KeyLemmas.{callsigns_total, exact_callsigns}
use Rattle.room_types.specs.declared.asks.Ask.{Ask}
use Rattle.room_types.specs.declared.changes.Change.{Change}
use Rattle.room_types.specs.declared.changes.Change.TheVariants.{DropLoan, DropOffer, PutLoan}
use Rattle.room_types.specs.declared.changes.Change.TheVariants.{PutOffer, PutVehicle, Settle}
use Rattle.room_types.specs.declared.codes.Status.{Status}
use Rattle.room_types.specs.declared.codes.Status.TheVariants.{AtHospital, AtScene, Available}
use Rattle.room_types.specs.declared.codes.Status.TheVariants.{Leaving, Mobilised, OffDuty, Offered}
use Rattle.room_types.specs.declared.codes.Status.TheVariants.{Returning}
use Rattle.room_types.specs.declared.refusal_statuses.Refusal.{Refusal}
use Rattle.room_types.specs.declared.tables.Loan.{Loan}
use Rattle.room_types.specs.declared.tables.Offer.{Offer}
use Rattle.room_types.specs.declared.tables.Vehicle.{Vehicle}
use Rattle.room_types.specs.Texts.{Callsign}
use Rattle.room_model.proofs.Apart.{local_leaves}
use Rattle.room_model.proofs.Foreign.{IsForeign, own_foreign, own_foreign_one}
use Rattle.room_model.proofs.Others.{IsHeld, apart_from, found_same, held_is, keep_some, none_own}
use Rattle.room_model.proofs.Others.{put_same, vehicle_foreign}
use Rattle.room_model.proofs.OwnChanges.{in_order_one, own_apply_one}
use Rattle.room_model.proofs.Tests.{or_left, or_right, row_key}
use Rattle.room_model.specs.Isolation.{freed, marked, share_by}
use Rattle.room_types.specs.Codes.{is_free, is_offered}
use Rattle.room_model.specs.Crossing.{Arrive, Crossing, Declined, Left, OfferIn, Recalled}
use Rattle.room_model.specs.Crossing.{Withdrawn, cross_other, is_loan_ended, is_local}
use Rattle.room_model.specs.Crossing.{is_offered_by, is_offered_to, newly_recalled}
use Rattle.room_model.specs.Decisions.{Verdict, changes_of, done, refuse_if, where_held}
use Rattle.room_model.specs.Loans.{accept, accepted, decline, declined, give_back, given_back, lend}
use Rattle.room_model.specs.Loans.{lender_of, loan_row, offer_row, offered, recall, recall_lent}
use Rattle.room_model.specs.Loans.{withdraw, withdrawn}
use Rattle.room_model.specs.Queries.{borrowed, held, lent, loan_at, offer_at, offered_by}
use Rattle.room_model.specs.Queries.{offered_to, vehicle_at}
use Rattle.room_model.specs.Room.{Room, apply, apply_one, settled}
use Rattle.room_model.proofs.ShareChanges.{share_one}
use Rattle.room_model.specs.Shares.{IsPlain, own}
use Rattle.room_model.specs.Step.{desk_asks}
use Rattle.room_model.specs.RoomAgreements.{IsWellFormed, LoanAgrees, OfferAgrees}
use Rattle.room_types.specs.declared.asks.Ask.TheVariants as ask

pub put_found : {R K : Type 0} (cmp : K → K → Ordering) (key : R → K) (total : IsTotalOrder cmp)
    (xs : List R) (x : R) → row_at cmp key (put_row cmp key xs x) (key x) ≡ Some x
put_found cmp key total xs x =
    row_put cmp key total xs x (key x)
    ∙ ap (λ (b : Bool). cond b (Some x) (row_at cmp key xs (key x)))
    (alike (cmp (key x) (key x)) (total.antisymm (key x) (key x)))
  where
    alike : (o : Ordering) → o ≡ ordering_reverse o → is_eq o ≡ true
    alike Less g = cc
    alike Equal g = refl
    alike Greater g = cc

or_false : (a b : Bool) → a ≡ false → b ≡ false → a || b ≡ false
or_false a b e f = rw e f

not_offered : (s : Status) → is_free s ≡ true → is_offered s ≡ false
not_offered OffDuty g = refl
not_offered Available g = refl
not_offered Mobilised g = refl
not_offered AtScene g = refl
not_offered Leaving g = refl
not_offered AtHospital g = refl
not_offered Returning g = refl
not_offered Offered g = cc

free_if : (b : Bool) → not b ≡ false → b ≡ true
free_if true g = refl
free_if false g = cc

module _ (d h : ℕ) (r : Room) (w : IsWellFormed r) (apart : h == d ≡ false) where
  abbrev pub Isolated : Ask → Verdict → Type 0
  Isolated a x =
      own d (apply r (changes_of x))
      ≡ share_by d (own d r) (cond (is_ok x) (cross_other d h a r (apply r (changes_of x))) None)

  refuse_isolated : (a : Ask) (b : Bool) (e : Refusal) (x : Verdict) → (b ≡ false → Isolated a x)
      → Isolated a (refuse_if b e x)
  unfolding refuse_if
  refuse_isolated a true e x f = refl
  refuse_isolated a false e x f = f refl

  held_isolated : (a : Ask) (o : Option Vehicle) (l : Option Loan) (f : Vehicle → Verdict)
      → ((v : Vehicle) → o ≡ Some v → Isolated a (f v)) → Isolated a (where_held o l f)
  held_isolated a None l f g = refl
  held_isolated a (Some v) l f g = g v refl

  cross_local : (a : Ask) (after : Room) → is_local a ≡ true → cross_other d h a r after ≡ None
  cross_local (ask.Lend c to until) after l = cc
  cross_local (ask.Withdraw c) after l = cc
  cross_local (ask.Decline c) after l = cc
  cross_local (ask.Accept c) after l = cc
  cross_local (ask.Recall c) after l = cc
  cross_local (ask.GiveBack c) after l = cc
  cross_local a after l = refl

  none_either : (b : Bool) → cond {A = Option Crossing} b None None ≡ None
  none_either true = refl
  none_either false = refl

  pub local_isolated : (a : Ask) (at : ℕ) → is_local a ≡ true → Isolated a (desk_asks h a at r)
  local_isolated a at l =
      own_foreign d r (changes_of (desk_asks h a at r)) w.order (local_leaves d h r w apart a at l)
      ∙ sym (ap (λ (x : Option Crossing). share_by d (own d r) (cond (is_ok (desk_asks h a at r)) x None))
      (cross_local a (apply r (changes_of (desk_asks h a at r))) l)
      ∙ ap (share_by d (own d r)) (none_either (is_ok (desk_asks h a at r))))

  -- a foreign change, and then a plain one
  after_foreign : (x y : Change) → IsForeign d (own d r) x → IsPlain y
      → own d (apply_one (apply_one r x) y) ≡ share_one d (own d r) y
  after_foreign x y f p =
      own_apply_one d (apply_one r x) y (in_order_one r x w.order) p
      ∙ ap (λ s. share_one d s y) (own_foreign_one d r x w.order f)

  offer_found : (c : Callsign) (o : Offer) → row_at callsign_cmp offer_key r.offers c ≡ Some o
      → c ≡ o.callsign
  offer_found c o g = row_key callsign_cmp offer_key callsigns_total exact_callsigns r.offers c o g

  -- the offer of h to a third division is not in the share
  other_offer : (c : Callsign) (o : Offer) → row_at callsign_cmp offer_key r.offers c ≡ Some o
      → owns_offer d o ≡ false → row_at callsign_cmp offer_key (own d r).offers c ≡ None
  other_offer c o g f =
      none_own callsign_cmp offer_key callsigns_total (owns_offer d) r.offers c w.order.offers
      (λ y e. let same : o ≡ y = found_same d h r w apart _ o y g e in ap (owns_offer d) (sym same) ∙ f)

  -- ---- withdraw
  withdrawn_isolated : (c : Callsign) (v : Vehicle) → IsHeld h c r v → (o : Option Offer)
      → offered_by h c r ≡ o → Isolated (ask.Withdraw c) (withdrawn o v)
  unfolding offered_by offer_at
  withdrawn_isolated c v is None e = refl
  withdrawn_isolated c v is (Some o) e =
      let parts = keep_some (λ o. o.lender == h) (row_at callsign_cmp offer_key r.offers c) o e in
      let lender : o.lender ≡ h = eqb-true o.lender h parts.1 in
      let vehicle = vehicle_foreign d h r w apart c v is (record v { status = Available }) refl is.holder in
      (elim (o.borrower
      == d) as (λ (b : Bool).
      o.borrower == d ≡ b
      → own d (apply r (PutVehicle (record v { status = Available }) ∷ DropOffer v.callsign ∷ []))
      ≡ share_by d (own d r) (cond b (Some (Withdrawn c)) None)) [
        | true ↦
            λ f.
            after_foreign (PutVehicle (record v { status = Available })) (DropOffer v.callsign) vehicle tt
            ∙ ap (λ k. apply_one (own d r) (DropOffer k)) (sym is.key)
        | false ↦
            λ f.
            own_foreign d r (PutVehicle (record v { status = Available }) ∷ DropOffer v.callsign ∷ []) w.order (
              vehicle,
              (
                subst (λ k. row_at callsign_cmp offer_key (own d r).offers k ≡ None) is.key
                    (other_offer c o parts.0 (or_false _ _ (apart_from o.lender h d lender apart) f)),
                tt,
              ),
            )
      ]) refl
      ∙ sym
      (ap (λ (x : Option Offer). share_by d (own d r) (cond (is_offered_to d x) (Some (Withdrawn c)) None)) parts.0)

  withdraw_isolated : (c : Callsign) → Isolated (ask.Withdraw c) (withdraw h c r)
  unfolding withdraw
  withdraw_isolated c =
      held_isolated (ask.Withdraw c) (held h c r) (lent h c r) (withdrawn (offered_by h c r))
      (λ v g. withdrawn_isolated c v (held_is h c r v g) (offered_by h c r) refl)

  -- ---- lend
  no_offer : (c : Callsign) (v : Vehicle) → IsHeld h c r v → is_free v.status ≡ true
      → row_at callsign_cmp offer_key (own d r).offers v.callsign ≡ None
  no_offer c v is free =
      none_own callsign_cmp offer_key callsigns_total (owns_offer d) r.offers v.callsign w.order.offers
      (λ o e.
      absurd (clash o (subst (λ x. OfferAgrees r.plan x (Some o)) is.there
      (subst (λ x. OfferAgrees r.plan (row_at callsign_cmp vehicle_key r.vehicles v.callsign) x) e
      (w.offers v.callsign)))))
    where
      clash : (o : Offer) → OfferAgrees r.plan (Some v) (Some o) → ⊥
      clash o f = let yes_ = f.0 in let no_ = not_offered v.status free in cc

  offer_isolated : (c : Callsign) (to until at : ℕ) (v : Vehicle) → IsHeld h c r v
      → is_free v.status ≡ true → Isolated (ask.Lend c to until)
      (done (PutVehicle (record v { status = Offered; post = None })
      ∷ PutOffer (offer_row v h to until at) ∷ []))
  unfolding offer_at
  offer_isolated c to until at v is free =
      let o = offer_row v h to until at in
      let x = PutVehicle (record v { status = Offered; post = None }) in
      let vehicle = vehicle_foreign d h r w apart c v is (record v { status = Offered; post = None }) refl is.holder in
      (elim (to
      == d) as (λ (b : Bool).
      to == d ≡ b → own d (apply r (x ∷ PutOffer o ∷ [])) ≡ share_by d (own d r) (cond b (Some (OfferIn o)) None)) [
        | true ↦
            λ f.
            after_foreign x (PutOffer o) vehicle tt
            ∙ ap (λ (b : Bool). record (own d r) {
              offers =
                  cond b (put_row callsign_cmp offer_key (own d r).offers o)
                  (drop_row callsign_cmp offer_key (own d r).offers v.callsign);
            }) (or_right (h == d) _ f)
        | false ↦
            λ f.
            own_foreign d r (x ∷ PutOffer o ∷ []) w.order (vehicle, ((or_false _ _ apart f, no_offer c v is free), tt))
      ]) refl
      ∙ sym (ap (λ (y : Option Offer). share_by d (own d r) (cond (to == d) (option_map OfferIn y) None))
      (ap (λ k. row_at callsign_cmp offer_key (put_row callsign_cmp offer_key r.offers o) k) is.key
      ∙ put_found callsign_cmp offer_key callsigns_total r.offers o))

  lend_isolated : (c : Callsign) (to until at : ℕ)
      → Isolated (ask.Lend c to until) (lend h c to until at r)
  unfolding lend
  lend_isolated c to until at =
      held_isolated (ask.Lend c to until) (held h c r) (lent h c r) (offered r.plan h to until at)
      (λ v g.
      refuse_isolated (ask.Lend c to until) _ _ _ (λ e.
      refuse_isolated (ask.Lend c to until) _ _ _ (λ e.
      refuse_isolated (ask.Lend c to until) _ _ _ (λ e.
      refuse_isolated (ask.Lend c to until) _ _ _ (λ free.
      refuse_isolated (ask.Lend c to until) _ _ _
      (λ e. offer_isolated c to until at v (held_is h c r v g) (free_if _ free)))))))

  -- ---- recall
  loan_isolated : (c : Callsign) (l : Option Loan) → lent h c r ≡ l → (v : Option Vehicle)
      → Isolated (ask.Recall c) (recall_lent l v)
  unfolding lent loan_at
  loan_isolated c None e None = refl
  loan_isolated c None e (Some v) = refl
  loan_isolated c (Some l) e v =
      let parts = keep_some (λ l. l.lender == h) (row_at callsign_cmp loan_key r.loans c) l e in
      let lender : l.lender == d ≡ false = apart_from l.lender h d (eqb-true l.lender h parts.1) apart in
      let key : c ≡ l.callsign = row_key callsign_cmp loan_key callsigns_total exact_callsigns r.loans c l parts.0 in
      (elim (l.borrower
      == d) as (λ (b : Bool).
      l.borrower == d ≡ b
      → own d (apply_one r (PutLoan (record l { recalled = true })))
      ≡ share_by d (own d r) (cond (b && not l.recalled) (Some (Recalled c)) None)) [
        | true ↦ λ f. marked_by c l key parts.0 (or_right (l.lender == d) _ f) l.recalled refl
        | false ↦
            λ f.
            own_foreign_one d r (PutLoan (record l { recalled = true })) w.order (
              or_false _ _ lender f,
              none_own callsign_cmp loan_key callsigns_total (owns_loan d) r.loans l.callsign w.order.loans
                  (λ y g.
                  let same : l
                  ≡ y =
                  found_same d h r w apart _ l y
                  (subst (λ k. row_at callsign_cmp loan_key r.loans k ≡ Some l) key parts.0) g in
                  ap (owns_loan d) (sym same) ∙ or_false _ _ lender f),
            )
      ]) refl
      ∙ sym (ap (λ (x : Option Loan). share_by d (own d r) (newly_recalled d c x)) e)
    where
      in_share : (c : Callsign) (l : Loan) → row_at callsign_cmp loan_key r.loans c ≡ Some l
          → owns_loan d l ≡ true → row_at callsign_cmp loan_key (own d r).loans c ≡ Some l
      in_share c l g f =
          row_filter callsign_cmp loan_key callsigns_total (owns_loan d) r.loans c w.order.loans
          ∙ ap (keep (owns_loan d)) g ∙ ap (λ (b : Bool). cond b (Some l) None) f

      put_owned : (l : Loan) → owns_loan d l ≡ true
          → own d (apply_one r (PutLoan (record l { recalled = true })))
          ≡ apply_one (own d r) (PutLoan (record l { recalled = true }))
      put_owned l f =
          own_apply_one d r (PutLoan (record l { recalled = true })) w.order tt
          ∙ ap (λ (b : Bool). record (own d r) {
            loans =
                cond b (put_row callsign_cmp loan_key (own d r).loans (record l { recalled = true }))
                (drop_row callsign_cmp loan_key (own d r).loans l.callsign);
          }) f

      marked_by : (c : Callsign) (l : Loan) → c ≡ l.callsign
          → row_at callsign_cmp loan_key r.loans c ≡ Some l → owns_loan d l ≡ true → (b : Bool)
          → l.recalled ≡ b → own d (apply_one r (PutLoan (record l { recalled = true })))
          ≡ share_by d (own d r) (cond (true && not b) (Some (Recalled c)) None)
      marked_by c l key g f false e = put_owned l f ∙ sym (ap (marked (own d r)) (in_share c l g f))
      marked_by c l key g f true e =
          put_owned l f ∙ ap (λ (x : Bool). apply_one (own d r) (PutLoan (record l { recalled = x }))) (sym e)
          ∙ ap (λ (xs : List Loan). record (own d r) { loans = xs })
          (put_same callsign_cmp loan_key callsigns_total (own d r).loans l
          (keyed_filter callsign_cmp loan_key callsigns_total (owns_loan d) r.loans w.order.loans)
          (subst (λ k. row_at callsign_cmp loan_key (own d r).loans k ≡ Some l) key (in_share c l g f)))

  recall_isolated : (c : Callsign) → Isolated (ask.Recall c) (recall h c r)
  unfolding recall
  recall_isolated c = loan_isolated c (lent h c r) refl (held h c r)

  -- ---- decline and accept
  -- a vehicle that an offer is of
  record IsOffered (c : Callsign) (o : Offer) : Type 0 where
    vehicle : Vehicle
    there : row_at callsign_cmp vehicle_key r.vehicles c ≡ Some vehicle
    agrees : OfferAgrees r.plan (Some vehicle) (Some o)

  offered_vehicle : (c : Callsign) (o : Offer) → row_at callsign_cmp offer_key r.offers c ≡ Some o
      → IsOffered c o
  offered_vehicle c o g =
      (elim (row_at callsign_cmp vehicle_key r.vehicles c) as (λ (x : Option Vehicle).
      row_at callsign_cmp vehicle_key r.vehicles c ≡ x → OfferAgrees r.plan x (Some o) → IsOffered c o) [
        | None ↦ λ e f. absurd f
        | Some v ↦ λ e f. record { vehicle = v; there = e; agrees = f }
      ]) refl (subst (λ x. OfferAgrees r.plan (row_at callsign_cmp vehicle_key r.vehicles c) x) g (w.offers c))

  -- a vehicle that is settled
  settled_share : (k : Callsign) (v : Vehicle)
      → row_at callsign_cmp vehicle_key r.vehicles k ≡ Some v → (e : ℕ) →
      own d (apply_one r (Settle k e))
      ≡ record (own d r) {
        vehicles =
            cond (e == d)
            (put_row callsign_cmp vehicle_key (own d r).vehicles (record v { holder = e; status = Available }))
            (drop_row callsign_cmp vehicle_key (own d r).vehicles v.callsign);
      }
  settled_share k v g e =
      ap (λ (x : Option Vehicle). record (own d r) { vehicles = filter (owns_vehicle d) (settled x e r.vehicles) }) g
      ∙ ap (λ (vs : List Vehicle). record (own d r) { vehicles = vs })
      (filter_put callsign_cmp vehicle_key callsigns_total (owns_vehicle d) r.vehicles
      (record v { holder = e; status = Available }) w.order.vehicles)

  -- a vehicle that another division holds is not in the share
  other_vehicle : (k : Callsign) (v : Vehicle)
      → row_at callsign_cmp vehicle_key r.vehicles k ≡ Some v → v.holder == d ≡ false
      → row_at callsign_cmp vehicle_key (own d r).vehicles k ≡ None
  other_vehicle k v g f =
      none_own callsign_cmp vehicle_key callsigns_total (owns_vehicle d) r.vehicles k w.order.vehicles
      (λ y e. let same : v ≡ y = found_same d h r w apart _ v y g e in ap (owns_vehicle d) (sym same) ∙ f)

  own_vehicle : (k : Callsign) (v : Vehicle)
      → row_at callsign_cmp vehicle_key r.vehicles k ≡ Some v → v.holder == d ≡ true
      → row_at callsign_cmp vehicle_key (own d r).vehicles k ≡ Some v
  own_vehicle k v g f =
      row_filter callsign_cmp vehicle_key callsigns_total (owns_vehicle d) r.vehicles k w.order.vehicles
      ∙ ap (keep (owns_vehicle d)) g ∙ ap (λ (b : Bool). cond b (Some v) None) f

  declined_isolated : (c : Callsign) (o : Option Offer) → offered_to h c r ≡ o
      → Isolated (ask.Decline c) (declined o)
  unfolding offered_to offer_at vehicle_at
  declined_isolated c None e = refl
  declined_isolated c (Some o) e =
      let parts = keep_some (λ o. o.borrower == h) (row_at callsign_cmp offer_key r.offers c) o e in
      let borrower : o.borrower ≡ h = eqb-true o.borrower h parts.1 in
      let key : c ≡ o.callsign = offer_found c o parts.0 in
      let is = offered_vehicle c o parts.0 in
      let v = is.vehicle in
      let lender : o.lender ≡ v.holder = is.agrees.1 in
      let there : row_at callsign_cmp vehicle_key r.vehicles o.callsign
      ≡ Some v = subst (λ k. row_at callsign_cmp vehicle_key r.vehicles k ≡ Some v) key is.there in
      (elim (o.lender
      == d) as (λ (b : Bool).
      o.lender == d ≡ b
      → own d (apply r (Settle o.callsign o.lender ∷ DropOffer o.callsign ∷ []))
      ≡ share_by d (own d r) (cond b (Some (Declined c)) None)) [
        | true ↦ λ f.
            own_apply_one d (apply_one r (Settle o.callsign o.lender)) (DropOffer o.callsign)
            (in_order_one r (Settle o.callsign o.lender) w.order) tt
            ∙ ap (λ s. share_one d s (DropOffer o.callsign)) (settled_share o.callsign v there o.lender)
            ∙ ap (λ (b : Bool). record (own d r) {
              offers = drop_row callsign_cmp offer_key (own d r).offers o.callsign;
              vehicles =
                  cond b
                  (put_row callsign_cmp vehicle_key (own d r).vehicles
                  (record v { holder = o.lender; status = Available }))
                  (drop_row callsign_cmp vehicle_key (own d r).vehicles v.callsign);
            }) f
            ∙ ap (λ (n : ℕ). record (own d r) {
              offers = drop_row callsign_cmp offer_key (own d r).offers o.callsign;
              vehicles =
                  put_row callsign_cmp vehicle_key (own d r).vehicles (record v { holder = n; status = Available });
            }) lender
            ∙ ap (λ (k : Callsign). record (own d r) {
              offers = drop_row callsign_cmp offer_key (own d r).offers k;
              vehicles = put_row callsign_cmp vehicle_key (own d r).vehicles (record v { status = Available });
            }) (sym key)
            ∙ sym (ap (freed (apply_one (own d r) (DropOffer c)))
            (own_vehicle c v is.there (ap (λ n. n == d) (sym lender) ∙ f)))
        | false ↦ λ f. own_foreign d r (Settle o.callsign o.lender ∷ DropOffer o.callsign ∷ []) w.order (
          (f, other_vehicle o.callsign v there (ap (λ n. n == d) (sym lender) ∙ f)),
          (
            subst (λ k. row_at callsign_cmp offer_key (own d r).offers k ≡ None) key
                (other_offer c o parts.0 (or_false _ _ f (apart_from o.borrower h d borrower apart))),
            tt,
          ),
        )
      ]) refl
      ∙ sym
      (ap (λ (x : Option Offer). share_by d (own d r) (cond (is_offered_by d x) (Some (Declined c)) None)) parts.0)

  decline_isolated : (c : Callsign) → Isolated (ask.Decline c) (decline h c r)
  unfolding decline
  decline_isolated c = declined_isolated c (offered_to h c r) refl

  no_loan : (k : Callsign) (v : Vehicle) (o : Offer)
      → row_at callsign_cmp vehicle_key r.vehicles k ≡ Some v
      → OfferAgrees r.plan (Some v) (Some o) → row_at callsign_cmp loan_key (own d r).loans k ≡ None
  no_loan k v o g f =
      none_own callsign_cmp loan_key callsigns_total (owns_loan d) r.loans k w.order.loans
      (λ l e.
      absurd (clash l (subst (λ x. LoanAgrees x (Some l)) g
      (subst (λ x. LoanAgrees (row_at callsign_cmp vehicle_key r.vehicles k) x) e (w.loans k)))))
    where
      clash : (l : Loan) → LoanAgrees (Some v) (Some l) → ⊥
      clash l a = a.2 (sym f.1 ∙ f.2)

  accepted_isolated : (c : Callsign) (o : Option Offer) (at : ℕ) → offered_to h c r ≡ o
      → Isolated (ask.Accept c) (accepted o at)
  unfolding offered_to offer_at loan_at
  accepted_isolated c None at e = refl
  accepted_isolated c (Some o) at e =
      let parts = keep_some (λ o. o.borrower == h) (row_at callsign_cmp offer_key r.offers c) o e in
      let borrower : o.borrower ≡ h = eqb-true o.borrower h parts.1 in
      let key : c ≡ o.callsign = offer_found c o parts.0 in
      let is = offered_vehicle c o parts.0 in
      let v = is.vehicle in
      let lender : o.lender ≡ v.holder = is.agrees.1 in
      let there : row_at callsign_cmp vehicle_key r.vehicles o.callsign
      ≡ Some v = subst (λ k. row_at callsign_cmp vehicle_key r.vehicles k ≡ Some v) key is.there in
      let callsign : o.callsign
      ≡ v.callsign = row_key callsign_cmp vehicle_key callsigns_total exact_callsigns r.vehicles o.callsign v there in
      let l = loan_row o at in
      let elsewhere : o.borrower == d ≡ false = apart_from o.borrower h d borrower apart in
      let one = apply_one r (Settle o.callsign o.borrower) in
      let two = apply_one one (DropOffer o.callsign) in
      let order_one = in_order_one r (Settle o.callsign o.borrower) w.order in
      (elim (o.lender
      == d) as (λ (b : Bool).
      o.lender == d ≡ b
      → own d (apply r (Settle o.callsign o.borrower ∷ DropOffer o.callsign ∷ PutLoan l ∷ []))
      ≡ share_by d (own d r) (cond b (Some (Left l)) None)) [
        | true ↦ λ f.
            own_apply_one d two (PutLoan l) (in_order_one one (DropOffer o.callsign) order_one) tt
            ∙ ap (λ s. share_one d s (PutLoan l)) (own_apply_one d one (DropOffer o.callsign) order_one tt
            ∙ ap (λ s. share_one d s (DropOffer o.callsign)) (settled_share o.callsign v there o.borrower))
            ∙ ap (λ (b : Bool). record (own d r) {
              offers = drop_row callsign_cmp offer_key (own d r).offers o.callsign;
              vehicles =
                  cond b
                  (put_row callsign_cmp vehicle_key (own d r).vehicles
                  (record v { holder = o.borrower; status = Available }))
                  (drop_row callsign_cmp vehicle_key (own d r).vehicles v.callsign);
              loans =
                  cond (owns_loan d l) (put_row callsign_cmp loan_key (own d r).loans l)
                  (drop_row callsign_cmp loan_key (own d r).loans l.callsign);
            }) elsewhere
            ∙ ap (λ (b : Bool). record (own d r) {
              offers = drop_row callsign_cmp offer_key (own d r).offers o.callsign;
              vehicles = drop_row callsign_cmp vehicle_key (own d r).vehicles v.callsign;
              loans =
                  cond b (put_row callsign_cmp loan_key (own d r).loans l)
                  (drop_row callsign_cmp loan_key (own d r).loans l.callsign);
            }) (or_left _ _ f)
            ∙ ap (λ (k : Callsign). record (own d r) {
              offers = drop_row callsign_cmp offer_key (own d r).offers o.callsign;
              vehicles = drop_row callsign_cmp vehicle_key (own d r).vehicles k;
              loans = put_row callsign_cmp loan_key (own d r).loans l;
            }) (sym callsign)
        | false ↦ λ f. own_foreign d r (Settle o.callsign o.borrower ∷ DropOffer o.callsign ∷ PutLoan l ∷ []) w.order (
          (elsewhere, other_vehicle o.callsign v there (ap (λ n. n == d) (sym lender) ∙ f)),
          (
            subst (λ k. row_at callsign_cmp offer_key (own d r).offers k ≡ None) key
                (other_offer c o parts.0 (or_false _ _ f elsewhere)),
            ((or_false _ _ f elsewhere, no_loan o.callsign v o there is.agrees), tt),
          ),
        )
      ]) refl
      ∙ sym (ap (λ (x : Option Offer). share_by d (own d r) (cond (is_offered_by d x) (Some (Left l)) None)) parts.0)
      ∙ sym (ap
      (λ (x : Option Loan).
      share_by d (own d r) (cond (is_offered_by d (row_at callsign_cmp offer_key r.offers c)) (option_map Left x) None))
      (ap (λ k. row_at callsign_cmp loan_key (put_row callsign_cmp loan_key r.loans l) k) key
      ∙ put_found callsign_cmp loan_key callsigns_total r.loans l))

  accept_isolated : (c : Callsign) (at : ℕ) → Isolated (ask.Accept c) (accept h c at r)
  unfolding accept
  accept_isolated c at = accepted_isolated c (offered_to h c r) at refl

  -- ---- give back
  -- the loan of a vehicle away from home
  record IsLent (v : Vehicle) : Type 0 where
    loan : Loan
    found : row_at callsign_cmp loan_key r.loans v.callsign ≡ Some loan
    borrower : loan.borrower ≡ h

  lent_vehicle : (c : Callsign) (v : Vehicle) → IsHeld h c r v → v.home == h ≡ false → IsLent v
  lent_vehicle c v is away =
      (elim (row_at callsign_cmp loan_key r.loans v.callsign) as (λ (x : Option Loan).
      row_at callsign_cmp loan_key r.loans v.callsign ≡ x → LoanAgrees (Some v) x → IsLent v) [
        | None ↦ λ e f. absurd (let at_home : v.home == h ≡ true = eq-eqb v.home h (sym f ∙ is.holder) in cc)
        | Some l ↦ λ e f. record { loan = l; found = e; borrower = f.1 ∙ is.holder }
      ]) refl
      (subst (λ x. LoanAgrees x (row_at callsign_cmp loan_key r.loans v.callsign)) is.there (w.loans v.callsign))

  returned_isolated : (c : Callsign) (v : Vehicle) → IsHeld h c r v → (l : Loan)
      → row_at callsign_cmp loan_key r.loans v.callsign ≡ Some l → l.borrower ≡ h
      → Isolated (ask.GiveBack c) (done
      (PutVehicle (record v { holder = l.lender; post = None }) ∷ DropLoan v.callsign ∷ []))
  unfolding loan_at vehicle_at
  returned_isolated c v is l g borrower =
      let x = record v { holder = l.lender; post = None } in
      let after = apply r (PutVehicle (record v { holder = l.lender; post = None }) ∷ DropLoan v.callsign ∷ []) in
      let elsewhere : l.borrower == d ≡ false = apart_from l.borrower h d borrower apart in
      (elim (l.lender
      == d) as (λ (b : Bool).
      l.lender == d ≡ b
      → own d (apply r (PutVehicle (record v { holder = l.lender; post = None }) ∷ DropLoan v.callsign ∷ []))
      ≡ share_by d (own d r) (cond (b && true) (Some (Arrive (record v { holder = l.lender; post = None }))) None)) [
        | true ↦ λ f.
            own_apply_one d (apply_one r (PutVehicle (record v { holder = l.lender; post = None })))
            (DropLoan v.callsign) (in_order_one r (PutVehicle (record v { holder = l.lender; post = None })) w.order) tt
            ∙ ap (λ s. share_one d s (DropLoan v.callsign))
            (own_apply_one d r (PutVehicle (record v { holder = l.lender; post = None })) w.order tt)
            ∙ ap (λ (b : Bool). record (own d r) {
              vehicles =
                  cond b
                  (put_row callsign_cmp vehicle_key (own d r).vehicles (record v { holder = l.lender; post = None }))
                  (drop_row callsign_cmp vehicle_key (own d r).vehicles v.callsign);
              loans = drop_row callsign_cmp loan_key (own d r).loans v.callsign;
            }) f
        | false ↦
            λ f.
            own_foreign d r (PutVehicle (record v { holder = l.lender; post = None }) ∷ DropLoan v.callsign ∷ [])
            w.order (
              (f, other_vehicle v.callsign v is.there (apart_from v.holder h d is.holder apart)),
              (
                none_own callsign_cmp loan_key callsigns_total (owns_loan d) r.loans v.callsign w.order.loans
                    (λ y e.
                    let same : l ≡ y = found_same d h r w apart _ l y g e in
                    ap (owns_loan d) (sym same) ∙ or_false _ _ f elsewhere),
                tt,
              ),
            )
      ]) refl
      ∙ sym (ap (λ (z : Option Loan). share_by d (own d r) (cond (is_loan_ended d z None) (Some (Arrive x)) None))
      (subst (λ k. row_at callsign_cmp loan_key r.loans k ≡ Some l) (sym is.key) g))
      ∙ sym (ap
      (λ (z : Option Loan).
      share_by d (own d r) (cond (is_loan_ended d (row_at callsign_cmp loan_key r.loans c) z) (Some (Arrive x)) None))
      (ap (λ k. row_at callsign_cmp loan_key (drop_row callsign_cmp loan_key r.loans v.callsign) k) is.key
      ∙ row_drop_same callsign_cmp loan_key callsigns_total r.loans v.callsign w.order.loans))
      ∙ sym (ap
      (λ (z : Option Vehicle).
      share_by d (own d r) (cond
      (is_loan_ended d (row_at callsign_cmp loan_key r.loans c) (row_at callsign_cmp loan_key after.loans c))
      (option_map Arrive z) None)) (ap
      (λ k. row_at callsign_cmp vehicle_key (put_row callsign_cmp vehicle_key r.vehicles x) k) is.key
      ∙ put_found callsign_cmp vehicle_key callsigns_total r.vehicles x))

  borrowed_is : (c : Callsign) (v : Vehicle) → IsHeld h c r v → (l : Loan)
      → row_at callsign_cmp loan_key r.loans v.callsign ≡ Some l → l.borrower ≡ h
      → borrowed h c r ≡ Some l
  unfolding borrowed
  borrowed_is c v is l g borrower =
      ap (keep (λ l. l.borrower == h)) (subst (λ k. row_at callsign_cmp loan_key r.loans k ≡ Some l) (sym is.key) g)
      ∙ ap (λ (b : Bool). cond b (Some l) None) (eq-eqb l.borrower h borrower)

  give_back_isolated : (c : Callsign) → Isolated (ask.GiveBack c) (give_back h c r)
  unfolding give_back
  give_back_isolated c =
      held_isolated (ask.GiveBack c) (held h c r) (lent h c r) (given_back h (borrowed h c r))
      (λ v g. refuse_isolated (ask.GiveBack c) _ _ _ (λ away. refuse_isolated (ask.GiveBack c) _ _ _ (λ busy.
      let is = held_is h c r v g in
      let on_loan = lent_vehicle c v is away in
      subst (λ (x : Option Loan).
      Isolated (ask.GiveBack c)
      (done (PutVehicle (record v { holder = lender_of v x; post = None }) ∷ DropLoan v.callsign ∷ [])))
      (sym (borrowed_is c v is on_loan.loan on_loan.found on_loan.borrower))
      (returned_isolated c v is on_loan.loan on_loan.found on_loan.borrower))))

  -- whatever another desk asks
  pub desk_isolated : (a : Ask) (at : ℕ) → Isolated a (desk_asks h a at r)
  desk_isolated (ask.Lend c to until) at = lend_isolated c to until at
  desk_isolated (ask.Withdraw c) at = withdraw_isolated c
  desk_isolated (ask.Decline c) at = decline_isolated c
  desk_isolated (ask.Accept c) at = accept_isolated c at
  desk_isolated (ask.Recall c) at = recall_isolated c
  desk_isolated (ask.GiveBack c) at = give_back_isolated c
  desk_isolated a at = local_isolated a at refl
