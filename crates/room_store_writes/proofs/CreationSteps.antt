-- What comes of puts one by one.
use Rattle.std.proofs.Common.{Bool, List, [], ap, arith, cond, false, map, refl, true, zero, suc, ℕ}
use Rattle.std.proofs.Common.{◌+◌, ◌<◌, ◌∷◌, ◌≡◌}
use Rattle.std.proofs.lemmas.Bool.Decides.{nat_tests}
use Rattle.std.specs.Ordering.{nat_cmp}
use Rattle.std.specs.Prelude.{filter}
use Rattle.std.specs.declared.cmp.Ordering.TheVariants.{Greater}
use Rattle.room_types.specs.KeyedRows.{put_row}
use Rattle.room_types.specs.Keys.{division_key}
use Rattle.room_types.specs.declared.tables.Division.{Division}
use Rattle.room_tables.specs.RoomsInTables.{places_from}
use Rattle.room_store_writes.specs.NewRoom.{new_division}

greater : (m n : ℕ) → n < m → nat_cmp m n ≡ Greater
greater m n h = grind (arith, nat_tests)

-- so many divisions of those that pass, from one on
abbrev pub divisions_to : (ℕ → Bool) → ℕ → ℕ → List Division
divisions_to passes a k = map new_division (filter passes (places_from a k))

one_more : (passed now : Bool) (a : ℕ) (e : Division) (rest last : List ℕ)
    → nat_cmp e.number a ≡ Greater
    → cond now (put_row nat_cmp division_key (map new_division rest) e) (map new_division rest)
    ≡ map new_division last
    → cond now (put_row nat_cmp division_key (map new_division (cond passed (a ∷ rest) rest)) e)
    (map new_division (cond passed (a ∷ rest) rest))
    ≡ map new_division (cond passed (a ∷ last) last)
one_more true true a e rest last above is = rw above (ap (λ l. new_division a ∷ l) is)
one_more true false a e rest last above is = ap (λ l. new_division a ∷ l) is
one_more false now a e rest last above is = is

first : (passed : Bool) (a : ℕ) → cond passed (new_division a ∷ []) []
    ≡ map new_division (cond passed (a ∷ []) [])
first true a = refl
first false a = refl

-- the next is put at the end
pub divisions_more : (passes : ℕ → Bool) (a k n : ℕ) → n ≡ a + k
    → cond (passes n) (put_row nat_cmp division_key (divisions_to passes a k) (new_division n))
    (divisions_to passes a k) ≡ divisions_to passes a (suc k)
divisions_more passes a zero n e = let same : n ≡ a = omega arith in rw same (first (passes a) a)
divisions_more passes a (suc k) n e =
    one_more (passes a) (passes n) a (new_division n) (filter passes (places_from (suc a) k))
    (filter passes (places_from (suc a) (suc k)))
    (greater n a (omega arith)) (divisions_more passes (suc a) k n (omega arith))
