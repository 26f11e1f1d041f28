-- An agreement of what stands at a key, given row by row.
use Rattle.std.specs.Bool.{Decides}
use Rattle.std.specs.Cmp.{IsTotalOrder}
use Rattle.std.specs.List.{list_all}
use Rattle.std.specs.Prelude.{IfSome, is_some}
use Rattle.std.specs.declared.cmp.Ordering.{Ordering}
use Rattle.std.proofs.Common.{Bool, List, None, Option, Some, refl, sym, true, ◌≡◌}
use Rattle.std.proofs.lemmas.Bool.{false≢true}
use Rattle.std.proofs.lemmas.Map.Lookups.{CmpEqualImpliesEq}
use Rattle.room_types.specs.KeyedRows.{IsKeyed, row_at}
use Rattle.room_types.proofs.EachRow.{at_each_key, from_each_key}

-- what holds of a row that is there
pub holds_there : {X Q : Type 0} (o : Option X) → IfSome o (λ x. Q) → is_some o ≡ true → Q
holds_there None h there = absurd (false≢true there)
holds_there (Some x) h there = h

pub there_if : {X : Type 0} (o : Option X) (b : Bool) → is_some o ≡ b → IfSome o (λ x. b ≡ true)
there_if None b e = tt
there_if (Some x) b e = sym e

-- what holds of no row holds where it holds of the row
module _ {X : Type 0} (B : Option X → Type 0) where
  pub lift : B None → (x : Option X) → IfSome x (λ x. B (Some x)) → B x
  lift none None h = none
  lift none (Some x) h = h

  pub lower : (x : Option X) → B x → IfSome x (λ x. B (Some x))
  lower None h = tt
  lower (Some x) h = h

-- what holds of no vehicle and no row, and of no row without its vehicle
module _ {V X : Type 0} (A : Option V → Option X → Type 0) where
  pub joined : A None None → (v : Option V) (x : Option X) → IfSome v (λ v. A (Some v) x)
      → IfSome x (λ x. is_some v ≡ true) → A v x
  joined none None None h g = none
  joined none None (Some x) h g = absurd (false≢true g)
  joined none (Some v) x h g = h

  pub has_vehicle : ((x : X) → A None (Some x) → ⊥) → (v : Option V) (x : Option X) → A v x
      → IfSome x (λ x. is_some v ≡ true)
  has_vehicle only_one v None h = tt
  has_vehicle only_one None (Some x) h = absurd (only_one x h)
  has_vehicle only_one (Some v) (Some x) h = refl

-- a test of all rows decides what holds of the row at each key
pub each : {R K : Type 0} (cmp : K → K → Ordering) (key : R → K) (total : IsTotalOrder cmp)
    (exact : CmpEqualImpliesEq cmp) (p : R → Bool) (P : K → R → Type 0)
    (decides : (x : R) → Decides (p x) (P (key x) x)) (xs : List R) → IsKeyed cmp key xs
    → Decides (list_all p xs) ((k : K) → IfSome (row_at cmp key xs k) (P k))
each cmp key total exact p P decides xs in_order =
    (at_each_key cmp key total exact p P decides xs, from_each_key cmp key total exact p P decides xs in_order)
