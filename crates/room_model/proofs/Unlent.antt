-- Where nothing is lent and nobody offers a vehicle, no loan and no offer ever comes.
use Rattle.std.proofs.Common.{ap, eq-eqb, subst, sym, ◌∙◌}
use Rattle.std.specs.Prelude.{Bool, Err, List, None, Ok, Option, Some, [], false, is_err, not, refl}
use Rattle.std.specs.Prelude.{true, ℕ, ◌==◌, ◌||◌, ◌∷◌, ◌≡◌}
use Rattle.room_types.specs.KeyedRows.{drop_row, keep, row_at}
use Rattle.room_types.specs.Keys.{callsign_cmp, loan_key, offer_key}
use Rattle.room_types.specs.Texts.{Callsign}
use Rattle.room_types.specs.declared.asks.Ask.{Ask}
use Rattle.room_types.specs.declared.asks.Event.{Event}
use Rattle.room_types.specs.declared.asks.Who.{Who}
use Rattle.room_types.specs.declared.asks.Who.TheVariants.{Crew, Desk, Position}
use Rattle.room_types.specs.declared.changes.Change.{Change}
use Rattle.room_types.specs.declared.changes.Change.TheVariants.{DropLoan, DropOffer, PutLoan}
use Rattle.room_types.specs.declared.changes.Change.TheVariants.{PutOffer}
use Rattle.room_types.specs.declared.refusal_statuses.Refusal.{Refusal}
use Rattle.room_types.specs.declared.tables.Loan.{Loan}
use Rattle.room_types.specs.declared.tables.Offer.{Offer}
use Rattle.room_types.specs.declared.tables.Vehicle.{Vehicle}
use Rattle.room_model.proofs.Changes.{AllOf, Allows, crew_all, desk_all, is_silent, lends}
use Rattle.room_model.proofs.Changes.{position_all}
use Rattle.room_model.proofs.KeptEvents.{addressed_still, event_kept}
use Rattle.room_model.proofs.Others.{IsHeld, held_is}
use Rattle.room_model.proofs.Tests.{or_left, or_right}
use Rattle.room_model.specs.Crossing.{is_local}
use Rattle.room_model.specs.Decisions.{Verdict, answer_of, changes_of, refuse_if, where_held}
use Rattle.room_model.specs.Events.{AreAddressed, AreLocal, IsUnlent, NobodyLends, is_lend}
use Rattle.room_model.specs.Loans.{accept, accepted, decline, declined, give_back, given_back}
use Rattle.room_model.specs.Loans.{recall, recall_lent, withdraw, withdrawn}
use Rattle.room_model.specs.Queries.{borrowed, held, lent, offered_by, offered_to}
use Rattle.room_model.specs.Room.{Room, apply, apply_one}
use Rattle.room_model.specs.Run.{room_run}
use Rattle.room_model.specs.Step.{decided, desk_asks, position_asks, room_after, who_asks}
use Rattle.room_model.specs.RoomAgreements.{IsWellFormed, LoanAgrees}
use Rattle.room_types.specs.declared.asks.Ask.TheVariants as ask

-- ---- changes that put no loan and no offer
abbrev LeavesUnlent : Change → Type 0
LeavesUnlent x = (s : Room) → IsUnlent s → IsUnlent (apply_one s x)

silent_leaves : (x : Change) → is_silent x ≡ true → LeavesUnlent x
silent_leaves (PutOffer x) e s u = cc
silent_leaves (PutLoan x) e s u = cc
silent_leaves (DropOffer c) e s u = (u.0, ap (λ os. drop_row callsign_cmp offer_key os c) u.1)
silent_leaves (DropLoan c) e s u = (ap (λ ls. drop_row callsign_cmp loan_key ls c) u.0, u.1)
silent_leaves x e s u = u

leaves_allowed : (r : Room) → Allows r LeavesUnlent
leaves_allowed r = record {
  silent = silent_leaves;
  new_call = λ x e placed s u. u;
  moved = λ x a m s u. u;
  new_report = λ x e s u. u;
  cleared = λ c n x e s u. u;
}

apply_leaves : (r : Room) (cs : List Change) → AllOf LeavesUnlent cs → IsUnlent r
    → IsUnlent (apply r cs)
apply_leaves r [] all u = u
apply_leaves r (x ∷ cs) all u = apply_leaves (apply_one r x) cs all.1 (all.0 r u)

refused_leaves : (r : Room) (x : Verdict) → is_err (answer_of x) ≡ true → IsUnlent r
    → IsUnlent (apply r (changes_of x))
refused_leaves r (Ok x) e u = cc
refused_leaves r (Err why) e u = u

local_lends : (a : Ask) → is_local a ≡ true → lends a ≡ false
local_lends (ask.Lend c to until) l = cc
local_lends (ask.Decline c) l = cc
local_lends (ask.Accept c) l = cc
local_lends (ask.Recall c) l = cc
local_lends a l = refl

-- ---- what is asked of loans and offers is refused
module _ (r : Room) (w : IsWellFormed r) (u : IsUnlent r) where
  abbrev IsRefused : Verdict → Type 0
  IsRefused x = is_err (answer_of x) ≡ true

  by_none : (d : ℕ) (c : Callsign) → offered_by d c r ≡ None
  unfolding offered_by
  by_none d c = ap (λ os. keep (λ (o : Offer). o.lender == d) (row_at callsign_cmp offer_key os c)) u.1

  to_none : (d : ℕ) (c : Callsign) → offered_to d c r ≡ None
  unfolding offered_to
  to_none d c = ap (λ os. keep (λ (o : Offer). o.borrower == d) (row_at callsign_cmp offer_key os c)) u.1

  lent_none : (d : ℕ) (c : Callsign) → lent d c r ≡ None
  unfolding lent
  lent_none d c = ap (λ ls. keep (λ (l : Loan). l.lender == d) (row_at callsign_cmp loan_key ls c)) u.0

  withdraw_refused : (v : Option Vehicle) (l : Option Loan)
      → IsRefused (where_held v l (withdrawn None))
  withdraw_refused None l = refl
  withdraw_refused (Some v) l = refl

  recall_refused : (v : Option Vehicle) → IsRefused (recall_lent None v)
  recall_refused None = refl
  recall_refused (Some v) = refl

  refused_by : (b : Bool) (why : Refusal) (x : Verdict) → b ≡ true → IsRefused (refuse_if b why x)
  unfolding refuse_if
  refused_by true why x e = refl
  refused_by false why x e = cc

  -- a vehicle that a desk holds is its own
  at_home : (d : ℕ) (c : Callsign) (v : Vehicle) → IsHeld d c r v → v.home == d ≡ true
  at_home d c v is =
      let here = subst (λ (o : Option Vehicle). LoanAgrees o (row_at callsign_cmp loan_key r.loans v.callsign)) is.there
      (w.loans v.callsign) in
      let home : v.holder
      ≡ v.home = subst (λ ls. LoanAgrees (Some v) (row_at callsign_cmp loan_key ls v.callsign)) u.0 here in
      eq-eqb v.home d (sym home ∙ is.holder)

  give_back_refused : (d : ℕ) (c : Callsign) (v : Option Vehicle) → held d c r ≡ v
      → IsRefused (where_held v (lent d c r) (given_back d (borrowed d c r)))
  give_back_refused d c None e = refl
  give_back_refused d c (Some v) e = refused_by (v.home == d) _ _ (at_home d c v (held_is d c r v e))

  rest_refused : (d : ℕ) (a : Ask) (at : ℕ) → is_local a ≡ false → is_lend a ≡ false
      → IsRefused (desk_asks d a at r)
  unfolding withdraw decline accept recall give_back
  rest_refused d (ask.Lend c to until) at l n = cc
  rest_refused d (ask.Withdraw c) at l n =
      subst (λ o. IsRefused (where_held (held d c r) (lent d c r) (withdrawn o))) (sym (by_none d c))
      (withdraw_refused (held d c r) (lent d c r))
  rest_refused d (ask.Decline c) at l n = subst (λ o. IsRefused (declined o)) (sym (to_none d c)) refl
  rest_refused d (ask.Accept c) at l n = subst (λ o. IsRefused (accepted o at)) (sym (to_none d c)) refl
  rest_refused d (ask.Recall c) at l n =
      subst (λ o. IsRefused (recall_lent o (held d c r))) (sym (lent_none d c)) (recall_refused (held d c r))
  rest_refused d (ask.GiveBack c) at l n = give_back_refused d c (held d c r) refl
  rest_refused d a at l n = cc

  -- ---- one event
  -- it is local or refused, and leaves nothing lent
  abbrev IsStep : Ask → Verdict → Type 0
  IsStep a x = (is_local a || is_err (answer_of x) ≡ true) × IsUnlent (apply r (changes_of x))

  refused_step : (a : Ask) (x : Verdict) → IsRefused x → IsStep a x
  refused_step a x e = (or_right (is_local a) _ e, refused_leaves r x e u)

  other_step : (d : ℕ) (a : Ask) (at : ℕ) → is_local a ≡ false → (b : Bool) → is_lend a ≡ b
      → not b || is_err (answer_of (desk_asks d a at r)) ≡ true → IsStep a (desk_asks d a at r)
  other_step d a at l true e n = refused_step a (desk_asks d a at r) n
  other_step d a at l false e n = refused_step a (desk_asks d a at r) (rest_refused d a at l e)

  desk_step : (d : ℕ) (a : Ask) (at : ℕ) (b : Bool) → is_local a ≡ b
      → not (is_lend a) || is_err (answer_of (desk_asks d a at r)) ≡ true
      → IsStep a (desk_asks d a at r)
  desk_step d a at true l n = (
    or_left _ _ l,
    apply_leaves r (changes_of (desk_asks d a at r))
        (desk_all r LeavesUnlent (leaves_allowed r) d a at (λ f. absurd (none (sym f ∙ local_lends a l)))) u,
  )
    where
      none : true ≡ false → ⊥
      none f = cc
  desk_step d a at false l n = other_step d a at l (is_lend a) refl n

  position_leaves : (p : ℕ) (a : Ask) (at : ℕ)
      → IsUnlent (apply r (changes_of (position_asks p a at r)))
  position_leaves p a at =
      apply_leaves r (changes_of (position_asks p a at r)) (position_all r LeavesUnlent (leaves_allowed r) p a at) u

  position_step : (p : ℕ) (a : Ask) (at : ℕ) → IsStep a (position_asks p a at r)
  position_step p (ask.Call f) at = (refl, position_leaves p (ask.Call f) at)
  position_step p a at = (refl, position_leaves p a at)

  crew_leaves : (c : Callsign) (a : Ask) (at : ℕ)
      → IsUnlent (apply r (changes_of (who_asks (Crew c) a at r)))
  crew_leaves c a at =
      apply_leaves r (changes_of (who_asks (Crew c) a at r)) (crew_all r LeavesUnlent (leaves_allowed r) c a at) u

  crew_step : (c : Callsign) (a : Ask) (at : ℕ) → IsStep a (who_asks (Crew c) a at r)
  crew_step c (ask.Report p) at = (refl, crew_leaves c (ask.Report p) at)
  crew_step c a at = (refl, crew_leaves c a at)

  who_step : (who : Who) (a : Ask) (at : ℕ)
      → not (is_lend a) || is_err (answer_of (who_asks who a at r)) ≡ true
      → IsStep a (who_asks who a at r)
  who_step (Desk d) a at n = desk_step d a at (is_local a) refl n
  who_step (Position p) a at n = position_step p a at
  who_step (Crew c) a at n = crew_step c a at

-- ---- any events
-- all are local, and nothing is lent after them
pub unlent_run : (es : List Event) (r : Room) → IsWellFormed r → AreAddressed es r → IsUnlent r
    → NobodyLends es r → AreLocal es r × IsUnlent (room_run es r)
unlent_run [] r w known u n = (tt, u)
unlent_run (e ∷ es) r w known u n =
    let step = who_step r w u e.who e.ask e.at n.0 in
    let rest = unlent_run es (room_after e r) (event_kept e r w known.0 known.1)
    (addressed_still es r (changes_of (decided e r)) known.2) step.1 n.1 in
    (((step.0, step.1.0 ∙ sym u.0), rest.0), rest.1)
