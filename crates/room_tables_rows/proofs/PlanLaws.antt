-- Areas with their places in the plan.
use Rattle.std.proofs.Common.{◌≡◌, ◌+◌, ◌++◌, ◌<◌, ℕ, suc, List, [], ◌∷◌, map, length, take, get_or}
use Rattle.std.proofs.Common.{refl, sym, ap, ◌∙◌, arith, Less, Greater}
use Rattle.std.specs.Ordering.{nat_cmp}
use Rattle.std.proofs.lemmas.Bool.Decides.{nat_tests}
use Rattle.std.proofs.lemmas.List.{take_more, map-append}
use Rattle.sqlite_value.specs.Order.{Row}
use Rattle.room_place.specs.declared.plans.Area.{Area}
use Rattle.room_types.specs.KeyedRows.{IsBelowAll, IsKeyed, put_row}
use Rattle.room_tables_rows.specs.AreaSql.{area_key, area_row}
use Rattle.room_tables_rows.specs.RoomsInTables.{numbered}

less : (m n : ℕ) → m < n → nat_cmp m n ≡ Less
less m n h = grind (arith, nat_tests)

greater : (m n : ℕ) → n < m → nat_cmp m n ≡ Greater
greater m n h = grind (arith, nat_tests)

numbered-below : (k n : ℕ) (plan : List Area) → k < n
    → IsBelowAll nat_cmp area_key k (numbered n plan)
numbered-below k n [] h = tt
numbered-below k n (a ∷ plan) h = (less k n h, numbered-below k (suc n) plan (omega arith))

-- they are in order
pub numbered-keyed : (n : ℕ) (plan : List Area) → IsKeyed nat_cmp area_key (numbered n plan)
numbered-keyed n [] = tt
numbered-keyed n (a ∷ plan) = (numbered-below n (suc n) plan (omega arith), numbered-keyed (suc n) plan)

-- the one after the last is put at the end
pub put_row-numbered : (n m : ℕ) (plan : List Area) (a : Area) → m ≡ n + length plan
    → put_row nat_cmp area_key (numbered n plan) (m, a) ≡ numbered n (plan ++ a ∷ [])
put_row-numbered n m [] a e = let same : m ≡ n = omega arith in ap (λ k. (k, a) ∷ []) same
put_row-numbered n m (b ∷ plan) a e =
    rw (greater m n (omega arith)) (ap (λ l. (n, b) ∷ l) (put_row-numbered (suc n) m plan a (omega arith)))

numbered-areas : (n : ℕ) (plan : List Area) → map (λ (p : ℕ × Area). p.1) (numbered n plan) ≡ plan
numbered-areas n [] = refl
numbered-areas n (a ∷ plan) = ap (λ l. a ∷ l) (numbered-areas (suc n) plan)

-- the areas are known from their numbered list
pub numbered-injective : (n : ℕ) (plan other : List Area) → numbered n plan ≡ numbered n other
    → plan ≡ other
numbered-injective n plan other e =
    sym (numbered-areas n plan) ∙ ap (map (λ (p : ℕ × Area). p.1)) e ∙ numbered-areas n other

-- one area more
pub numbered-append : (n : ℕ) (plan : List Area) (a : Area)
    → numbered n (plan ++ a ∷ []) ≡ numbered n plan ++ (n + length plan, a) ∷ []
numbered-append n [] a = let same : n ≡ n + 0 = omega arith in ap (λ k. (k, a) ∷ []) same
numbered-append n (b ∷ plan) a =
    ap (λ l. (n, b) ∷ l) (numbered-append (suc n) plan a
    ∙ (let same : suc n + length plan ≡ n + suc (length plan) = omega arith in
    ap (λ k. numbered (suc n) plan ++ (k, a) ∷ []) same))

-- one row more that was read
pub areas_more : (areas : List Area) (shown : List Row) (i at : ℕ) (a : Area) (cells : Row)
    → length areas ≡ i → map area_row (numbered 1 areas) ≡ take i shown
    → i < length shown → cells ≡ get_or shown i cells → area_row (at, a) ≡ cells → at ≡ i + 1
    → map area_row (numbered 1 (areas ++ a ∷ [])) ≡ take (i + 1) shown
areas_more areas shown i at a cells count read low item is place =
    let e : 1 + length areas ≡ at = omega arith in
    ap (map area_row) (numbered-append 1 areas a ∙ ap (λ k. numbered 1 areas ++ (k, a) ∷ []) e)
    ∙ map-append area_row (numbered 1 areas) ((at, a) ∷ [])
    ∙ ap (λ l. l ++ area_row (at, a) ∷ []) read ∙ ap (λ v. take i shown ++ v ∷ []) (is ∙ item)
    ∙ sym (take_more shown i cells low)
