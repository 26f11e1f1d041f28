-- Offers and loans keep a room well-formed.
use Rattle.std.proofs.Common.{ap, eq-eqb, eqb-true, inl, inr, subst, sym, ◌∙◌}
use Rattle.std.specs.Prelude.{Bool, None, Option, Some, [], cond, false, option_map, refl, true, ℕ}
use Rattle.std.specs.Prelude.{◌==◌, ◌||◌, ◌∷◌, ◌≡◌, ◌≢◌, ◌⊎◌}
use Rattle.room_place.specs.Plans.{has_division}
use Rattle.room_types.specs.KeyedRows.{keep, row_at}
use Rattle.room_types.specs.Keys.{callsign_cmp, loan_key, offer_key, vehicle_key}
use Rattle.room_types.specs.KeyLemmas.{callsigns_total, exact_callsigns}
use Rattle.room_types.specs.Texts.{Callsign}
use Rattle.room_types.specs.declared.changes.Change.TheVariants.{DropLoan, DropOffer, PutLoan}
use Rattle.room_types.specs.declared.changes.Change.TheVariants.{PutOffer, PutVehicle, Settle}
use Rattle.room_types.specs.declared.codes.Status.TheVariants.{Available, Offered}
use Rattle.room_types.specs.declared.tables.Loan.{Loan}
use Rattle.room_types.specs.declared.tables.Offer.{Offer}
use Rattle.room_types.specs.declared.tables.Vehicle.{Vehicle}
use Rattle.room_model.proofs.KeptAsks.{Kept, held_kept, refuse_kept}
use Rattle.room_model.proofs.Others.{IsHeld, keep_some}
use Rattle.room_model.proofs.Tests.{row_key}
use Rattle.room_model.proofs.VehicleAgreements.{Agrees, agreed, kept_by, known}
use Rattle.room_model.proofs.VehicleChanges.{is_true, offered_agrees, returned_agrees}
use Rattle.room_model.proofs.VehicleChanges.{settled_agrees}
use Rattle.room_model.proofs.VehicleRows.{VehicleRows, bare, rows_of, settle}
use Rattle.room_model.specs.Loans.{accept, accepted, decline, declined, give_back, given_back, lend}
use Rattle.room_model.specs.Loans.{lender_of, loan_row, offer_row, offered, recall, recall_lent}
use Rattle.room_model.specs.Loans.{withdraw, withdrawn}
use Rattle.room_model.specs.Queries.{borrowed, held, lent, offered_by, offered_to}
use Rattle.room_model.specs.Room.{Room}
use Rattle.room_model.specs.RoomAgreements.{IsWellFormed, LoanAgrees, OfferAgrees}

or_parts : (a b : Bool) → a || b ≡ false → (a ≡ false) × (b ≡ false)
or_parts true b e = cc
or_parts false b e = (refl, e)

pub not_equal : (a b : ℕ) → a == b ≡ false → a ≢ b
not_equal a b e same = let alike : a == b ≡ true = eq-eqb a b same in cc

-- a mark on a loan changes nothing that is agreed of it
loan_marked : (o : Option Vehicle) (l : Loan) → LoanAgrees o (Some l)
    → LoanAgrees o (Some (record l { recalled = true }))
loan_marked None l h = h
loan_marked (Some v) l h = h

marked_agrees : (s : Room) (p : VehicleRows) (l : Loan) → p.loan ≡ Some l → Agrees s p
    → Agrees s (record p { loan = Some (record l { recalled = true }) })
marked_agrees s p l there h = record {
  loan = loan_marked p.vehicle l (subst (LoanAgrees p.vehicle) there h.loan);
  offer = h.offer;
  assignment = h.assignment;
  turn = h.turn;
  same_incident = h.same_incident;
  active = h.active;
  report = h.report;
  last_report = h.last_report;
  post = h.post;
  home = h.home;
  holder = h.holder;
  turn_division = h.turn_division;
  report_division = h.report_division;
}

-- a vehicle's lender is its home, whether or not the loan is known
pub lender_home : (v : Vehicle) (o l : Option Loan) → LoanAgrees (Some v) o → (l ≡ None) ⊎ (l ≡ o)
    → lender_of v l ≡ v.home
lender_home v o None h e = refl
lender_home v None (Some l) h e = elim e [ inl f ↦ cc | inr f ↦ cc ]
lender_home v (Some k) (Some l) h e = elim e [
  | inl f ↦ cc
  | inr f ↦ let same : l ≡ k = cc in ap (λ (z : Loan). z.lender) same ∙ h.0
]

-- what is kept is none, or all
pub keep_either : {X : Type 0} (p : X → Bool) (o : Option X) → (keep p o ≡ None) ⊎ (keep p o ≡ o)
keep_either p None = inl refl
keep_either {X} p (Some x) =
    (elim (p x) as (λ (b : Bool). (cond b (Some x) None ≡ None) ⊎ (cond b (Some x) None ≡ Some x)) [
      | true ↦ inr refl
      | false ↦ inl refl
    ])

module _ (d : ℕ) (r : Room) (w : IsWellFormed r) where
  pub lend_kept : (c : Callsign) (to until at : ℕ) → Kept d r w (lend d c to until at r)
  unfolding lend
  lend_kept c to until at =
      held_kept d r w c (offered r.plan d to until at) (λ v is h.
      refuse_kept d r w _ _ _ (λ other.
      refuse_kept d r w _ _ _
      (λ home. refuse_kept d r w _ _ _ (λ idle. refuse_kept d r w _ _ _ (λ free. refuse_kept d r w _ _ _ (λ later.
      let o = offer_row v d to until at in
      let parts = or_parts _ _ other in
      kept_by v.callsign r (PutVehicle (record v { status = Offered; post = None }) ∷ PutOffer o ∷ []) w
      (refl, (refl, tt))
      (offered_agrees (bare r) (rows_of v.callsign r) v h o (is_true _ free) (sym is.holder)
      (sym (eqb-true v.home d (is_true _ home))) (not_equal to d parts.0) (is_true _ parts.1))))))))

  -- an offer that is found is of an offered vehicle
  pub record IsOffer (c : Callsign) (o : Offer) : Type 0 where
    pub vehicle : Vehicle
    pub key : c ≡ o.callsign
    pub there : row_at callsign_cmp vehicle_key r.vehicles o.callsign ≡ Some vehicle
    pub agrees : Agrees (bare r) (record (rows_of o.callsign r) { vehicle = Some vehicle })
    pub offer : OfferAgrees r.plan (Some vehicle) (Some o)

  is_offer : (c : Callsign) (o : Offer) → row_at callsign_cmp offer_key r.offers c ≡ Some o
      → IsOffer c o
  is_offer c o e =
      let key : c ≡ o.callsign = row_key callsign_cmp offer_key callsigns_total exact_callsigns r.offers c o e in
      let found : row_at callsign_cmp offer_key r.offers o.callsign
      ≡ Some o = subst (λ k. row_at callsign_cmp offer_key r.offers k ≡ Some o) key e in
      (elim (row_at callsign_cmp vehicle_key r.vehicles o.callsign) as (λ (x : Option Vehicle).
      row_at callsign_cmp vehicle_key r.vehicles o.callsign ≡ x → OfferAgrees r.plan x (Some o) → IsOffer c o) [
        | None ↦ λ f g. absurd g
        | Some v ↦
            λ f g. record {
              vehicle = v;
              key = key;
              there = f;
              agrees = known (bare r) (rows_of o.callsign r) v f (agreed r w o.callsign);
              offer = g;
            }
      ]) refl (subst (λ x. OfferAgrees r.plan (row_at callsign_cmp vehicle_key r.vehicles o.callsign) x) found
      (w.offers o.callsign))

  withdrawn_kept : (c : Callsign) (v : Vehicle) → IsHeld d c r v
      → Agrees (bare r) (record (rows_of v.callsign r) { vehicle = Some v }) → (o : Option Offer)
      → offered_by d c r ≡ o → Kept d r w (withdrawn o v)
  unfolding offered_by
  withdrawn_kept c v is h None e = w
  withdrawn_kept c v is h (Some o) e =
      let there = (keep_some (λ o. o.lender == d) (row_at callsign_cmp offer_key r.offers c) o e).0 in
      let offer : OfferAgrees r.plan (Some v) (Some o) = subst (OfferAgrees r.plan (Some v))
      (ap (row_at callsign_cmp offer_key r.offers) (sym is.key) ∙ there) h.offer in
      kept_by v.callsign r (PutVehicle (record v { status = Available }) ∷ DropOffer v.callsign ∷ []) w
      (refl, (refl, tt))
      (settled_agrees (bare r) (rows_of v.callsign r) v h v.holder _ offer.0 h.loan h.holder)

  pub withdraw_kept : (c : Callsign) → Kept d r w (withdraw d c r)
  unfolding withdraw
  withdraw_kept c =
      held_kept d r w c (withdrawn (offered_by d c r)) (λ v is h. withdrawn_kept c v is h (offered_by d c r) refl)

  declined_kept : (c : Callsign) (o : Option Offer) → offered_to d c r ≡ o → Kept d r w (declined o)
  unfolding offered_to
  declined_kept c None e = w
  declined_kept c (Some o) e =
      let is = is_offer c o (keep_some (λ o. o.borrower == d) (row_at callsign_cmp offer_key r.offers c) o e).0 in
      let v = is.vehicle in
      let h = is.agrees in
      let p = rows_of o.callsign r in
      kept_by o.callsign r (Settle o.callsign o.lender ∷ DropOffer o.callsign ∷ []) w (refl, (refl, tt))
      (subst (λ x. Agrees (bare r) (record p { vehicle = option_map (settle o.lender) x; offer = None })) (sym is.there)
      (settled_agrees (bare r) p v h o.lender p.loan is.offer.0
      (subst (λ n. LoanAgrees (Some (record v { holder = n; status = Available })) p.loan) (sym is.offer.1) h.loan)
      (subst (λ n. has_division r.plan n ≡ true) (sym is.offer.1) h.holder)))

  pub decline_kept : (c : Callsign) → Kept d r w (decline d c r)
  unfolding decline
  decline_kept c = declined_kept c (offered_to d c r) refl

  accepted_kept : (c : Callsign) (o : Option Offer) (at : ℕ) → offered_to d c r ≡ o
      → Kept d r w (accepted o at)
  unfolding offered_to
  accepted_kept c None at e = w
  accepted_kept c (Some o) at e =
      let is = is_offer c o (keep_some (λ o. o.borrower == d) (row_at callsign_cmp offer_key r.offers c) o e).0 in
      let v = is.vehicle in
      let p = rows_of o.callsign r in
      kept_by o.callsign r (Settle o.callsign o.borrower ∷ DropOffer o.callsign ∷ PutLoan (loan_row o at) ∷ []) w
      (refl, (refl, (refl, tt)))
      (subst (λ x.
      Agrees (bare r)
      (record p { vehicle = option_map (settle o.borrower) x; offer = None; loan = Some (loan_row o at) }))
      (sym is.there)
      (settled_agrees (bare r) p v is.agrees o.borrower (Some (loan_row o at)) is.offer.0
      (is.offer.2, refl, λ same. is.offer.3 (same ∙ sym is.offer.2)) is.offer.4))

  pub accept_kept : (c : Callsign) (at : ℕ) → Kept d r w (accept d c at r)
  unfolding accept
  accept_kept c at = accepted_kept c (offered_to d c r) at refl

  recalled_kept : (c : Callsign) (l : Option Loan) (v : Option Vehicle) → lent d c r ≡ l
      → Kept d r w (recall_lent l v)
  unfolding lent
  recalled_kept c None None e = w
  recalled_kept c None (Some v) e = w
  recalled_kept c (Some l) v e =
      let there = (keep_some (λ l. l.lender == d) (row_at callsign_cmp loan_key r.loans c) l e).0 in
      let key : c ≡ l.callsign = row_key callsign_cmp loan_key callsigns_total exact_callsigns r.loans c l there in
      kept_by l.callsign r (PutLoan (record l { recalled = true }) ∷ []) w (refl, tt)
      (marked_agrees (bare r) (rows_of l.callsign r) l
      (subst (λ k. row_at callsign_cmp loan_key r.loans k ≡ Some l) key there) (agreed r w l.callsign))

  pub recall_kept : (c : Callsign) → Kept d r w (recall d c r)
  unfolding recall
  recall_kept c = recalled_kept c (lent d c r) (held d c r) refl

  -- the loan of a vehicle that the division borrows, if there is one, is from its home
  pub lender_is_home : (c : Callsign) (v : Vehicle) → IsHeld d c r v
      → Agrees (bare r) (record (rows_of v.callsign r) { vehicle = Some v })
      → lender_of v (borrowed d c r) ≡ v.home
  unfolding borrowed
  lender_is_home c v is h =
      subst
      (λ (k : Callsign). lender_of v (keep (λ l. l.borrower == d) (row_at callsign_cmp loan_key r.loans k)) ≡ v.home)
      (sym is.key) (lender_home v (row_at callsign_cmp loan_key r.loans v.callsign) _ h.loan
      (keep_either (λ l. l.borrower == d) (row_at callsign_cmp loan_key r.loans v.callsign)))

  pub give_back_kept : (c : Callsign) → Kept d r w (give_back d c r)
  unfolding give_back
  give_back_kept c =
      held_kept d r w c (given_back d (borrowed d c r))
      (λ v is h. refuse_kept d r w _ _ _ (λ away. refuse_kept d r w _ _ _ (λ idle.
      kept_by v.callsign r
      (PutVehicle (record v { holder = lender_of v (borrowed d c r); post = None }) ∷ DropLoan v.callsign ∷ []) w
      (refl, (refl, tt))
      (returned_agrees (bare r) (rows_of v.callsign r) v h
      (record v { holder = lender_of v (borrowed d c r); post = None })
      (λ same. not_equal v.home d away (sym same ∙ is.holder)) idle idle refl refl (lender_is_home c v is h) refl refl
      refl))))

-- the loan that a division borrows by is none, or the one that is there
pub borrowed_either : (d : ℕ) (c : Callsign) (r : Room) (v : Vehicle) → c ≡ v.callsign
    → (borrowed d c r ≡ None) ⊎ (borrowed d c r ≡ row_at callsign_cmp loan_key r.loans v.callsign)
unfolding borrowed
borrowed_either d c r v e =
    subst (λ (k : Callsign).
    (keep (λ l. l.borrower == d) (row_at callsign_cmp loan_key r.loans c) ≡ None)
    ⊎ (keep (λ l. l.borrower == d) (row_at callsign_cmp loan_key r.loans c) ≡ row_at callsign_cmp loan_key r.loans k)) e
    (keep_either (λ l. l.borrower == d) (row_at callsign_cmp loan_key r.loans c))
