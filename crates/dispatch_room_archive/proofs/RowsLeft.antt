-- What a room has at a key without what stays behind.
use Rattle.std.proofs.Common.{ap, sym, ◌∙◌}
use Rattle.std.proofs.lemmas.Map.Lookups.{CmpEqualImpliesEq}
use Rattle.std.specs.Cmp.{IsTotalOrder}
use Rattle.std.specs.Prelude.{Bool, List, None, Option, Some, cond, false, filter, is_some, not}
use Rattle.std.specs.Prelude.{refl, true, ℕ, ◌≡◌}
use Rattle.std.specs.declared.cmp.Ordering.{Ordering}
use Rattle.room_types.proofs.KeyedLaws.{row_filter}
use Rattle.room_types.specs.KeyedRows.{IsKeyed, keep, row_at}
use Rattle.room_types.specs.Keys.{call_key, incident_key, numbered_cmp, pair_cmp, report_key}
use Rattle.room_types.specs.Keys.{turn_key}
use Rattle.room_types.specs.KeyLemmas.{exact_numbered, exact_pair, numbered_total, pairs_total}
use Rattle.room_types.specs.Texts.{Callsign}
use Rattle.room_model.proofs.Tests.{row_key}
use Rattle.room_model.specs.Room.{IsInOrder, Room}
use Rattle.dispatch_room_archive.specs.Successor.{Behind, without}

either_way : {X : Type 0} (b : Bool) (o : Option X) → cond b o o ≡ o
either_way true o = refl
either_way false o = refl

-- a row is there if its key passes
row_passing : {R K : Type 0} (cmp : K → K → Ordering) (key : R → K) (total : IsTotalOrder cmp)
    (exact : CmpEqualImpliesEq cmp) (q : K → Bool) (xs : List R) (k : K) → IsKeyed cmp key xs
    → row_at cmp key (filter (λ x. q (key x)) xs) k ≡ cond (q k) (row_at cmp key xs k) None
row_passing {R} {K} cmp key total exact q xs k h =
    row_filter cmp key total (λ x. q (key x)) xs k h ∙ passing (row_at cmp key xs k) refl
  where
    passing : (o : Option R) → row_at cmp key xs k ≡ o
        → keep (λ x. q (key x)) o ≡ cond (q k) o None
    passing None e = sym (either_way (q k) None)
    passing (Some x) e = ap (λ (j : K). cond (q j) (Some x) None) (sym (row_key cmp key total exact xs k x e))

-- what holds of no row, and of the row that is there where it didn't stay behind
pub by_left : {X : Type 0} (P : Option X → Type 0) (stays : Bool) (o : Option X) → P None
    → (stays ≡ false → P o) → P (cond (not stays) o None)
by_left P true o none f = none
by_left P false o none f = f refl

-- a row that is kept, where it passes
pub kept_is : {X : Type 0} (p : X → Bool) (x : X) → is_some (keep p (Some x)) ≡ p x
kept_is {X} p x = of (p x)
  where
    of : (b : Bool) → is_some (cond b (Some x) None) ≡ b
    of true = refl
    of false = refl

module _ (b : Behind) (r : Room) (order : IsInOrder r) where
  pub incident_left : (d n : ℕ)
      → row_at pair_cmp incident_key (without b r).incidents (d, n)
      ≡ cond (not (b.incident d n)) (row_at pair_cmp incident_key r.incidents (d, n)) None
  incident_left d n =
      row_passing pair_cmp incident_key pairs_total exact_pair (λ k. not (b.incident k.0 k.1)) r.incidents (d, n)
      order.incidents

  pub call_left : (p s : ℕ)
      → row_at pair_cmp call_key (without b r).calls (p, s)
      ≡ cond (not (b.call p s)) (row_at pair_cmp call_key r.calls (p, s)) None
  call_left p s =
      row_passing pair_cmp call_key pairs_total exact_pair (λ k. not (b.call k.0 k.1)) r.calls (p, s) order.calls

  pub report_left : (c : Callsign) (n : ℕ)
      → row_at numbered_cmp report_key (without b r).reports (c, n)
      ≡ cond (not (b.report c n)) (row_at numbered_cmp report_key r.reports (c, n)) None
  report_left c n =
      row_passing numbered_cmp report_key numbered_total exact_numbered (λ k. not (b.report k.0 k.1)) r.reports (c, n)
      order.reports

  pub turn_left : (c : Callsign) (n : ℕ)
      → row_at numbered_cmp turn_key (without b r).turns (c, n)
      ≡ keep (λ t. not (b.incident t.division t.incident))
      (row_at numbered_cmp turn_key r.turns (c, n))
  turn_left c n =
      row_filter numbered_cmp turn_key numbered_total (λ t. not (b.incident t.division t.incident)) r.turns (c, n)
      order.turns

  -- what didn't stay behind is there as it was
  pub incident_there : (d n : ℕ) → b.incident d n ≡ false
      → row_at pair_cmp incident_key (without b r).incidents (d, n)
      ≡ row_at pair_cmp incident_key r.incidents (d, n)
  incident_there d n e =
      incident_left d n ∙ ap (λ (x : Bool). cond (not x) (row_at pair_cmp incident_key r.incidents (d, n)) None) e

  pub call_there : (p s : ℕ) → b.call p s ≡ false
      → row_at pair_cmp call_key (without b r).calls (p, s)
      ≡ row_at pair_cmp call_key r.calls (p, s)
  call_there p s e = call_left p s ∙ ap (λ (x : Bool). cond (not x) (row_at pair_cmp call_key r.calls (p, s)) None) e

  pub report_there : (c : Callsign) (n : ℕ) → b.report c n ≡ false
      → row_at numbered_cmp report_key (without b r).reports (c, n)
      ≡ row_at numbered_cmp report_key r.reports (c, n)
  report_there c n e =
      report_left c n ∙ ap (λ (x : Bool). cond (not x) (row_at numbered_cmp report_key r.reports (c, n)) None) e

  -- and what stayed behind is not there
  pub incident_gone : (d n : ℕ) → b.incident d n ≡ true
      → row_at pair_cmp incident_key (without b r).incidents (d, n) ≡ None
  incident_gone d n e =
      incident_left d n ∙ ap (λ (x : Bool). cond (not x) (row_at pair_cmp incident_key r.incidents (d, n)) None) e

  pub call_gone : (p s : ℕ) → b.call p s ≡ true
      → row_at pair_cmp call_key (without b r).calls (p, s) ≡ None
  call_gone p s e = call_left p s ∙ ap (λ (x : Bool). cond (not x) (row_at pair_cmp call_key r.calls (p, s)) None) e

  pub report_gone : (c : Callsign) (n : ℕ) → b.report c n ≡ true
      → row_at numbered_cmp report_key (without b r).reports (c, n) ≡ None
  report_gone c n e =
      report_left c n ∙ ap (λ (x : Bool). cond (not x) (row_at numbered_cmp report_key r.reports (c, n)) None) e
