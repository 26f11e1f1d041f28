-- A desk's own request: its share's step is the room's, with the vehicle at hand that it accepts.
use Rattle.std.proofs.Common.{ap, eqb-true, subst, sym, ◌∙◌}
use Rattle.std.specs.Prelude.{Bool, List, None, Option, Some, [], cond, false, is_ok, refl, true, ℕ}
use Rattle.std.specs.Prelude.{◌==◌, ◌∷◌, ◌≡◌}
use Rattle.room_types.specs.KeyedRows.{keep, row_at}
use Rattle.room_types.specs.Keys.{callsign_cmp, offer_key, owns_vehicle, vehicle_key}
use Rattle.room_types.specs.KeyLemmas.{callsigns_total, exact_callsigns}
use Rattle.room_types.specs.declared.asks.Ask.{Ask}
use Rattle.room_types.specs.declared.asks.Event.{Event}
use Rattle.room_types.specs.declared.asks.Who.TheVariants.{Desk}
use Rattle.room_types.specs.declared.changes.Change.{Change}
use Rattle.room_types.specs.declared.changes.Change.TheVariants.{DropOffer, PutLoan, PutVehicle}
use Rattle.room_types.specs.declared.changes.Change.TheVariants.{Settle}
use Rattle.room_types.specs.declared.codes.Status.TheVariants.{Available}
use Rattle.room_types.specs.declared.tables.Offer.{Offer}
use Rattle.room_types.specs.declared.tables.Vehicle.{Vehicle}
use Rattle.room_types.specs.Texts.{Callsign}
use Rattle.room_model.proofs.Foreign.{share_foreign}
use Rattle.room_model.proofs.Handed.{put_found}
use Rattle.room_model.proofs.OneEvent.{own_desk}
use Rattle.room_model.proofs.Others.{keep_some, none_own}
use Rattle.room_model.proofs.OwnChanges.{in_order_one, in_order_own, own_apply, own_apply_one}
use Rattle.room_model.proofs.OwnChanges.{own_apply_own, own_twice}
use Rattle.room_model.proofs.OwnDesk.{desk_own, sees_own}
use Rattle.room_model.proofs.Tests.{row_key}
use Rattle.room_model.specs.Isolation.{answers_by, put_vehicle, share_by}
use Rattle.room_model.specs.Crossing.{Asked, cross_own, with_vehicle}
use Rattle.room_model.specs.Decisions.{answer_of, changes_of}
use Rattle.room_model.specs.Loans.{accept, accepted, decline, declined, loan_row}
use Rattle.room_model.specs.Queries.{offer_at, offered_to, vehicle_at}
use Rattle.room_model.specs.Room.{Room, apply, apply_one, settled}
use Rattle.room_model.proofs.ShareChanges.{share_after, share_one}
use Rattle.room_model.specs.Shares.{ArePlain, own}
use Rattle.room_model.specs.Step.{desk_asks}
use Rattle.room_model.specs.RoomAgreements.{IsWellFormed, OfferAgrees}
use Rattle.room_types.specs.declared.asks.Ask.TheVariants as ask

abbrev settled_row : Vehicle → ℕ → Vehicle
settled_row v e = record v { holder = e; status = Available }

-- a vehicle that is there is settled by a put of its row
settle_puts : (r : Room) (k : Callsign) (e : ℕ) (v : Vehicle)
    → row_at callsign_cmp vehicle_key r.vehicles k ≡ Some v
    → apply_one r (Settle k e) ≡ apply_one r (PutVehicle (settled_row v e))
settle_puts r k e v there = ap (λ (x : Option Vehicle). record r { vehicles = settled x e r.vehicles }) there

module _ (d : ℕ) (r : Room) (w : IsWellFormed r) where
  -- an offer's vehicle, which its borrower doesn't hold yet
  record IsOffered (o : Offer) : Type 0 where
    vehicle : Vehicle
    there : row_at callsign_cmp vehicle_key r.vehicles o.callsign ≡ Some vehicle
    key : o.callsign ≡ vehicle.callsign
    lender : o.lender ≡ vehicle.holder
    elsewhere : vehicle.holder == o.borrower ≡ false

  differ : (a b c : ℕ) → a ≡ b → (c ≡ a → ⊥) → b == c ≡ false
  differ a b c e f = (elim (b == c) as (λ (t : Bool). b == c ≡ t → t ≡ false) [
    | true ↦ λ g. absurd (f (sym (e ∙ eqb-true b c g)))
    | false ↦ λ g. refl
  ]) refl

  offered_vehicle : (o : Offer) → row_at callsign_cmp offer_key r.offers o.callsign ≡ Some o
      → IsOffered o
  offered_vehicle o g =
      (elim (row_at callsign_cmp vehicle_key r.vehicles o.callsign) as (λ (x : Option Vehicle).
      row_at callsign_cmp vehicle_key r.vehicles o.callsign ≡ x → OfferAgrees r.plan x (Some o) → IsOffered o) [
        | None ↦ λ e f. absurd f
        | Some v ↦
            λ e f. record {
              vehicle = v;
              there = e;
              key = row_key callsign_cmp vehicle_key callsigns_total exact_callsigns r.vehicles o.callsign v e;
              lender = f.1;
              elsewhere = differ o.lender v.holder o.borrower f.1 f.3;
            }
      ]) refl (subst (λ x. OfferAgrees r.plan (row_at callsign_cmp vehicle_key r.vehicles o.callsign) x) g
      (w.offers o.callsign))

  -- the vehicle that another division holds is none of the share's
  absent : (k : Callsign) (v : Vehicle) → row_at callsign_cmp vehicle_key r.vehicles k ≡ Some v
      → v.holder == d ≡ false → row_at callsign_cmp vehicle_key (own d r).vehicles k ≡ None
  absent k v there other =
      none_own callsign_cmp vehicle_key callsigns_total (owns_vehicle d) r.vehicles k w.order.vehicles
      (λ y e.
      let both : Some v ≡ Some y = sym there ∙ e in let same : v ≡ y = cc in ap (owns_vehicle d) (sym same) ∙ other)

  -- it is settled elsewhere: the share has nothing of it
  settled_elsewhere : (k : Callsign) (e : ℕ) (v : Vehicle)
      → row_at callsign_cmp vehicle_key r.vehicles k ≡ Some v → k ≡ v.callsign
      → v.holder == d ≡ false → e == d ≡ false → (cs : List Change) → ArePlain cs
      → own d (apply r (Settle k e ∷ cs)) ≡ own d (apply (own d r) (Settle k e ∷ cs))
  settled_elsewhere k e v there key other away cs plain =
      let none = absent k v there other in
      ap (λ s. own d (apply s cs)) (settle_puts r k e v there)
      ∙ own_apply d r (PutVehicle (settled_row v e) ∷ cs) w.order (tt, plain)
      ∙ ap (λ s. share_after d s cs) (share_foreign d (own d r) (PutVehicle (settled_row v e))
      (away, ap (row_at callsign_cmp vehicle_key (own d r).vehicles) (sym key) ∙ none))
      ∙ sym (own_apply d r cs w.order plain)
      ∙ own_apply_own d r cs w.order plain
      ∙ sym (ap
      (λ (x : Option Vehicle). own d (apply (record (own d r) { vehicles = settled x e (own d r).vehicles }) cs)) none)

  -- the share that is handed the vehicle first settles it as the room does
  settled_here : (k : Callsign) (e : ℕ) (v : Vehicle)
      → row_at callsign_cmp vehicle_key r.vehicles k ≡ Some v → k ≡ v.callsign
      → v.holder == d ≡ false → (cs : List Change) → ArePlain cs
      → own d (apply r (Settle k e ∷ cs))
      ≡ own d (apply (put_vehicle (own d r) v) (Settle k e ∷ cs))
  settled_here k e v there key other cs plain =
      let s = put_vehicle (own d r) v in
      let order = in_order_own d r w.order in
      let none = ap (row_at callsign_cmp vehicle_key (own d r).vehicles) (sym key) ∙ absent k v there other in
      let found = subst (λ c. row_at callsign_cmp vehicle_key s.vehicles c ≡ Some v) (sym key)
      (put_found callsign_cmp vehicle_key callsigns_total (own d r).vehicles v) in
      let back : own d s
      ≡ own d r =
      own_apply_one d (own d r) (PutVehicle v) order tt ∙ ap (λ x. share_one d x (PutVehicle v)) (own_twice d r)
      ∙ share_foreign d (own d r) (PutVehicle v) (other, none) in
      ap (λ x. own d (apply x cs)) (settle_puts r k e v there)
      ∙ own_apply d r (PutVehicle (settled_row v e) ∷ cs) w.order (tt, plain)
      ∙ sym (ap (λ x. own d (apply x cs)) (settle_puts s k e v found)
      ∙ own_apply d s (PutVehicle (settled_row v e) ∷ cs) (in_order_one (own d r) (PutVehicle v) order) (tt, plain)
      ∙ ap (λ x. share_after d x (PutVehicle (settled_row v e) ∷ cs)) back)

  -- the offer to this division, with its vehicle
  offered_here : (c : Callsign) (o : Offer) → offered_to d c r ≡ Some o
      → IsOffered o × (o.borrower ≡ d) × (c ≡ o.callsign)
  unfolding offered_to
  offered_here c o e =
      let parts = keep_some (λ o. o.borrower == d) (row_at callsign_cmp offer_key r.offers c) o e in
      let key : c ≡ o.callsign = row_key callsign_cmp offer_key callsigns_total exact_callsigns r.offers c o parts.0 in (
        offered_vehicle o (subst (λ k. row_at callsign_cmp offer_key r.offers k ≡ Some o) key parts.0),
        eqb-true o.borrower d parts.1,
        key,
      )

  away : (o : Offer) → (is : IsOffered o) → o.borrower ≡ d → is.vehicle.holder == d ≡ false
  away o is e = ap (λ n. is.vehicle.holder == n) (sym e) ∙ is.elsewhere

  abbrev request : Ask → ℕ → Event
  request a at = record { who = Desk d; ask = a; at = at }

  -- ---- decline
  declined_own : (c : Callsign) (at : ℕ) (o : Option Offer) → offered_to d c r ≡ o
      → own d (apply r (changes_of (declined o)))
      ≡ own d (apply (own d r) (changes_of (declined o)))
  declined_own c at None e = sym (own_twice d r)
  declined_own c at (Some o) e =
      let is = offered_here c o e in
      let there = is.0 in
      let other = away o there is.1 in
      settled_elsewhere o.callsign o.lender there.vehicle there.there there.key other
      (ap (λ n. n == d) there.lender ∙ other) (DropOffer o.callsign ∷ []) (tt, tt)

  decline_own : (c : Callsign) (at : ℕ)
      → own d (apply r (changes_of (decline d c r)))
      ≡ own d (apply (own d r) (changes_of (decline d c (own d r))))
  unfolding decline
  decline_own c at =
      declined_own c at (offered_to d c r) refl
      ∙ sym (ap (λ o. own d (apply (own d r) (changes_of (declined o)))) ((sees_own d r w.order).same_offered_to c))

  -- ---- accept
  -- only the offers decide it
  accept_by_offers : (c : Callsign) (at : ℕ) (v : Vehicle)
      → accept d c at (put_vehicle (own d r) v) ≡ accept d c at r
  unfolding accept offered_to
  accept_by_offers c at v = ap (λ o. accepted o at) (same_offer c)
    where
      same_offer : (c : Callsign) → offered_to d c (own d r) ≡ offered_to d c r
      same_offer c = (sees_own d r w.order).same_offered_to c

  accepted_own : (c : Callsign) (at : ℕ) (o : Option Offer) → offered_to d c r ≡ o
      → accept d c at r ≡ accepted o at
      → own d (apply r (changes_of (accepted o at)))
      ≡ share_by d (own d r) (Some (cond (is_ok (accepted o at))
      (with_vehicle (request (ask.Accept c) at) (vehicle_at c r))
      (Asked (request (ask.Accept c) at))))
  unfolding vehicle_at
  accepted_own c at None e g =
      sym (own_twice d r)
      ∙ sym (ap (λ x. own d (apply (own d r) (changes_of x))) (desk_own d r w.order (ask.Accept c) at ∙ g))
  accepted_own c at (Some o) e g =
      let is = offered_here c o e in
      let there = is.0 in
      let v = there.vehicle in
      let found = subst (λ k. row_at callsign_cmp vehicle_key r.vehicles k ≡ Some v) (sym is.2) there.there in
      settled_here o.callsign o.borrower v there.there there.key (away o there is.1)
      (DropOffer o.callsign ∷ PutLoan (loan_row o at) ∷ []) (tt, (tt, tt))
      ∙ sym (ap (λ x. own d (apply (put_vehicle (own d r) v) (changes_of x))) (accept_by_offers c at v ∙ g))
      ∙ sym (ap (λ x. share_by d (own d r) (Some (with_vehicle (request (ask.Accept c) at) x))) found)

  accept_own : (c : Callsign) (at : ℕ)
      → own d (apply r (changes_of (accept d c at r)))
      ≡ share_by d (own d r) (Some (cond (is_ok (accept d c at r))
      (with_vehicle (request (ask.Accept c) at) (vehicle_at c r))
      (Asked (request (ask.Accept c) at))))
  unfolding accept
  accept_own c at = accepted_own c at (offered_to d c r) refl refl

  -- ---- any request
  pub own_request : (a : Ask) (at : ℕ)
      → own d (apply r (changes_of (desk_asks d a at r)))
      ≡ share_by d (own d r) (Some (cross_own (is_ok (desk_asks d a at r)) (request a at) a r))
  own_request (ask.Decline c) at = decline_own c at
  own_request (ask.Accept c) at = accept_own c at
  own_request a at = own_desk d r a at w.order refl

  answers_accept : (c : Callsign) (at : ℕ) (b : Bool) (o : Option Vehicle)
      → answers_by (own d r) (Some (cond b (with_vehicle (request (ask.Accept c) at) o)
      (Asked (request (ask.Accept c) at)))) ≡ answer_of (accept d c at r) ∷ []
  answers_accept c at false o = ap (λ x. answer_of x ∷ []) (desk_own d r w.order (ask.Accept c) at)
  answers_accept c at true None = ap (λ x. answer_of x ∷ []) (desk_own d r w.order (ask.Accept c) at)
  answers_accept c at true (Some v) = ap (λ x. answer_of x ∷ []) (accept_by_offers c at v)

  -- and its answer
  pub answers_request : (a : Ask) (at : ℕ)
      → answers_by (own d r) (Some (cross_own (is_ok (desk_asks d a at r)) (request a at) a r))
      ≡ answer_of (desk_asks d a at r) ∷ []
  answers_request (ask.Accept c) at = answers_accept c at (is_ok (accept d c at r)) (vehicle_at c r)
  answers_request a at = ap (λ x. answer_of x ∷ []) (desk_own d r w.order a at)

-- ---- the offer only
module _ (d : ℕ) (c : Callsign) (at : ℕ) (r s : Room) (same : offer_at c r ≡ offer_at c s) where
  same_offered : offered_to d c r ≡ offered_to d c s
  unfolding offered_to offer_at
  same_offered = ap (keep (λ o. o.borrower == d)) same

  pub only_accept : desk_asks d (ask.Accept c) at r ≡ desk_asks d (ask.Accept c) at s
  unfolding accept
  only_accept = ap (λ o. accepted o at) same_offered

  pub only_decline : desk_asks d (ask.Decline c) at r ≡ desk_asks d (ask.Decline c) at s
  unfolding decline
  only_decline = ap declined same_offered
