-- Whatever is near a place lies in the square around it.
use Rattle.std.proofs.Common.{Bool, arith, cond, false, inl, inr, leb, refl, suc, true, zero, ℕ}
use Rattle.std.proofs.Common.{◌*◌, ◌+◌, ◌<◌, ◌^◌, ◌≡◌, ◌≤◌}
use Rattle.std.proofs.Math.Nat.{mul-le-mul}
use Rattle.std.proofs.lemmas.Bool.{cases_lt, le-leb, leb-true}
use Rattle.std.specs.Int.{abs_diff}
use Rattle.std.specs.Prelude.{nat_le}
use borrow.Author.Tests.{leb-false}
use Rattle.room_place.specs.Places.{distance, root_from, square_between}
use Rattle.room_place.specs.declared.places.Place.{Place}
use Rattle.room_model.proofs.Tests.{both_true}
use Rattle.room_model.specs.Moments.{link_metres}
use Rattle.room_model.specs.WorkingRows.{is_around}

-- A root is only cut short by its bits where it is the greatest of as many: below that, the next
-- number's square is more than n, however great n is.
next_is_more : (n k m s : ℕ) → s + 1 < m + 2 ^ k → root_from n k m ≤ s → n < (s + 1) * (s + 1)
next_is_more n zero m s below small = omega (arith, below, small)
next_is_more n (suc k) m s below small =
    (elim (leb ((m + 2 ^ k) * (m + 2 ^ k)) n) as (λ (b : Bool).
    leb ((m + 2 ^ k) * (m + 2 ^ k)) n ≡ b → root_from n k (cond b (m + 2 ^ k) m) ≤ s → n < (s + 1) * (s + 1)) [
      | true ↦ λ e found. next_is_more n k (m + 2 ^ k) s (omega (arith, below)) found
      | false ↦ λ e found. elim (cases_lt (s + 1) (m + 2 ^ k)) [
        | inl lower ↦ next_is_more n k m s lower found
        | inr reached ↦ let square : (m + 2 ^ k) * (m + 2 ^ k)
            ≤ (s + 1) * (s + 1) = mul-le-mul reached reached in omega (arith, square, leb-false _ _ e)
      ]
    ]) refl small

one_side : (x y : ℕ) → x * x + y * y < 201 * 201 → x ≤ 200
one_side x y h = elim (cases_lt 200 x) [
  | inl far ↦ let square : 201 * 201 ≤ x * x = mul-le-mul far far in omega (arith, square, h)
  | inr near ↦ near
]

pub near_around : (p q : Place) → nat_le (distance p q) link_metres ≡ true → is_around p q ≡ true
unfolding distance
near_around p q near =
    let short : square_between p q
    < 201 * 201 = next_is_more (square_between p q) 20 0 200 (omega arith) (leb-true _ _ near) in
    let east : abs_diff p.east q.east ≤ 200 = one_side (abs_diff p.east q.east) (abs_diff p.north q.north) short in
    let north : abs_diff p.north q.north
    ≤ 200 = one_side (abs_diff p.north q.north) (abs_diff p.east q.east) (omega (arith, short)) in
    both_true _ _ (le-leb _ _ east) (le-leb _ _ north)
