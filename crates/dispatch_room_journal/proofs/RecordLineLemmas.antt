-- The beginning of the line before a record, byte by byte.
use Rattle.std.proofs.Common.{Bool, List, [], ap, arith, drop, false, get_or, length, length-append}
use Rattle.std.proofs.Common.{length-drop, length-take-le, refl, subst, suc, sym, take}
use Rattle.std.proofs.Common.{take-append-drop, true, zero, ℕ, ◌+◌, ◌++◌, ◌<◌, ◌∙◌, ◌∷◌, ◌≡◌, ◌≤◌}
use Rattle.std.proofs.lemmas.Bool.{false≢true, lt-ltb}
use Rattle.std.proofs.lemmas.List.{drop_more, take_more}
use Rattle.std.proofs.lemmas.List.Elements.{All-cons, All-head, All-nil, All-tail}
use Rattle.std.specs.Char.{is_ascii_digit}
use Rattle.std.specs.Prelude.{All, nat_lt, replicate, ◌&&◌, ◌==◌, ⊤}
use Rattle.dispatch_room_journal.specs.Entries.{is_digest_digit}
use Rattle.dispatch_room_journal.specs.CutRecords.{BeginsLine, IsRecordLine, may_stand}

-- these bytes may stand from this place on
abbrev pub StandFrom : ℕ → List ℕ → Type 0
StandFrom at [] = ⊤
StandFrom at (byte ∷ more) = (may_stand at byte ≡ true) × StandFrom (suc at) more

-- ---- parts of such bytes
stand_both : (at n : ℕ) (xs ys : List ℕ) → n ≡ at + length xs → StandFrom at xs → StandFrom n ys
    → StandFrom at (xs ++ ys)
stand_both at n [] ys is first next = subst (λ k. StandFrom k ys) (omega (arith, is)) next
stand_both at n (x ∷ xs) ys is first next =
    (first.0, stand_both (suc at) n xs ys (omega (arith, is)) first.1 next)

stand_first : (at : ℕ) (xs ys : List ℕ) → StandFrom at (xs ++ ys) → StandFrom at xs
stand_first at [] ys both = tt
stand_first at (x ∷ xs) ys both = (both.0, stand_first (suc at) xs ys both.1)

stand_next : (at n : ℕ) (xs ys : List ℕ) → n ≡ at + length xs → StandFrom at (xs ++ ys)
    → StandFrom n ys
stand_next at n [] ys is both = subst (λ k. StandFrom k ys) (omega (arith, is)) both
stand_next at n (x ∷ xs) ys is both = stand_next (suc at) n xs ys (omega (arith, is)) both.1

stand_dropped : (l : List ℕ) (n : ℕ) → n ≤ length l → StandFrom 0 l → StandFrom n (drop n l)
stand_dropped l n fits stand =
    stand_next 0 n (take n l) (drop n l) (omega (arith, length-take-le n l fits))
    (subst (λ k. StandFrom 0 k) (sym (take-append-drop n l)) stand)

-- ---- the places
size_digit : (at byte : ℕ) → at < 5 → may_stand at byte ≡ true → is_ascii_digit byte ≡ true
size_digit at byte low is = rw (lt-ltb at 5 low) at is

size_stands : (at byte : ℕ) → at < 5 → is_ascii_digit byte ≡ true → may_stand at byte ≡ true
size_stands at byte low is = rw (lt-ltb at 5 low) is

module _ (at byte : ℕ) (low : 6 ≤ at) (high : at < 70) where
  behind : nat_lt at 5 ≡ false
  behind = grind (arith, low)

  no_space : (at == 5) ≡ false
  no_space = grind (arith, low)

  no_end : (at == 70) ≡ false
  no_end = grind (arith, high)

  check_digit : may_stand at byte ≡ true → is_digest_digit byte ≡ true
  check_digit is = rw (behind, no_space, no_end) at is

  check_stands : is_digest_digit byte ≡ true → may_stand at byte ≡ true
  check_stands is = rw (behind, no_space, no_end) is

-- bytes of one kind stand there
all_stand : (Kind : ℕ → Type 0) (at to : ℕ) (l : List ℕ) → to ≡ at + length l
    → ((k byte : ℕ) → at ≤ k → k < to → Kind byte → may_stand k byte ≡ true) → All Kind l
    → StandFrom at l
all_stand Kind at to [] is stands all = tt
all_stand Kind at to (x ∷ xs) is stands all = (
  stands at x (omega arith) (omega (arith, is)) (All-head Kind x xs all),
  all_stand Kind (suc at) to xs (omega (arith, is))
      (λ k byte low high kind. stands k byte (omega (arith, low)) high kind) (All-tail Kind x xs all),
)

-- the first bytes that stand there, which are of one kind, and the others
record Taken (Kind : ℕ → Type 0) (n to : ℕ) (l : List ℕ) : Type 0 where
  front : List ℕ
  rest : List ℕ
  is : l ≡ front ++ rest
  len : length front ≡ n
  all : All Kind front
  stand : StandFrom to rest

one_more : (Kind : ℕ → Type 0) (n to x : ℕ) (xs : List ℕ) → Kind x → Taken Kind n to xs
    → Taken Kind (suc n) to (x ∷ xs)
one_more Kind n to x xs kind more = record {
  front = x ∷ more.front;
  rest = more.rest;
  is = ap (λ l. x ∷ l) more.is;
  len = ap suc more.len;
  all = All-cons Kind x more.front kind more.all;
  stand = more.stand;
}

taken : (Kind : ℕ → Type 0) (n at to : ℕ) (l : List ℕ) → to ≡ at + n → n ≤ length l
    → ((k byte : ℕ) → at ≤ k → k < to → may_stand k byte ≡ true → Kind byte) → StandFrom at l
    → Taken Kind n to l
taken Kind zero at to l is fits kinds stand = record {
  front = [];
  rest = l;
  is = refl;
  len = refl;
  all = All-nil Kind;
  stand = subst (λ k. StandFrom k l) (omega (arith, is)) stand;
}
taken Kind (suc n) at to [] is fits kinds stand = absurd (omega (arith, fits))
taken Kind (suc n) at to (x ∷ xs) is fits kinds stand =
    one_more Kind n to x xs (kinds at x (omega arith) (omega (arith, is)) stand.0)
    (taken Kind n (suc at) to xs (omega (arith, is)) (omega (arith, fits))
    (λ k byte low high stands. kinds k byte (omega (arith, low)) high stands) stand.1)

-- ---- a whole line
space_is : (byte : ℕ) → may_stand 5 byte ≡ true → byte ≡ 32
space_is byte is = grind (arith, is)

end_is : (byte : ℕ) → may_stand 70 byte ≡ true → byte ≡ 10
end_is byte is = grind (arith, is)

one_end : (l : List ℕ) → length l ≡ 1 → StandFrom 70 l → l ≡ 10 ∷ []
one_end [] one stand = absurd (omega (arith, one))
one_end (byte ∷ []) one stand = rw (end_is byte stand.0) refl
one_end (byte ∷ (next ∷ more)) one stand = absurd (omega (arith, one))

behind_size : (size l : List ℕ) → length size ≡ 5 → All (λ byte. is_ascii_digit byte ≡ true) size
    → length l ≡ 66 → StandFrom 5 l → IsRecordLine (size ++ l)
behind_size size [] five digits long stand = absurd (omega (arith, long))
behind_size size (space ∷ more) five digits long stand =
    let check = taken (λ byte. is_digest_digit byte ≡ true) 64 6 70 more refl (omega (arith, long))
    (λ k byte low high stands. check_digit k byte low high stands) stand.1
    in
    let rest_long : length check.rest ≡ 1 =
    omega (arith, long, check.len, ap length check.is, length-append check.front check.rest)
    in
    let line : more ≡ check.front ++ 10 ∷ [] =
    check.is ∙ ap (λ l. check.front ++ l) (one_end check.rest rest_long check.stand)
    in
    let spaced : space ∷ more ≡ 32 ∷ (check.front ++ 10 ∷ []) =
    rw (space_is space stand.0) (ap (λ l. 32 ∷ l) line)
    in
    record {
      size = size;
      five = five;
      digits = digits;
      check = check.front;
      is_check = (check.len, check.all);
      is = ap (λ l. size ++ l) spaced;
    }

record_line : (l : List ℕ) → length l ≡ 71 → StandFrom 0 l → IsRecordLine l
record_line l long stand =
    let size = taken (λ byte. is_ascii_digit byte ≡ true) 5 0 5 l refl (omega (arith, long))
    (λ k byte low high stands. size_digit k byte high stands) stand
    in
    let rest_long : length size.rest ≡ 66 =
    omega (arith, long, size.len, ap length size.is, length-append size.front size.rest)
    in
    subst (λ l. IsRecordLine l) (sym size.is)
    (behind_size size.front size.rest size.len size.all rest_long size.stand)

line_stands : (l : List ℕ) → IsRecordLine l → StandFrom 0 l
line_stands l line =
    let check : StandFrom 6 (line.check ++ 10 ∷ []) =
    stand_both 6 70 line.check (10 ∷ []) (omega (arith, line.is_check.0))
    (all_stand (λ byte. is_digest_digit byte ≡ true) 6 70 line.check (omega (arith, line.is_check.0))
    (λ k byte low high kind. check_stands k byte low high kind) line.is_check.1) (refl, tt)
    in
    subst (λ l. StandFrom 0 l) (sym line.is)
    (stand_both 0 5 line.size (32 ∷ (line.check ++ 10 ∷ [])) (omega (arith, line.five))
    (all_stand (λ byte. is_ascii_digit byte ≡ true) 0 5 line.size (omega (arith, line.five))
    (λ k byte low high kind. size_stands k byte high kind) line.digits) (refl, check))

-- ---- a line of which nothing is missing
abbrev blank : List ℕ
blank = replicate 5 48 ++ 32 ∷ (replicate 64 48 ++ 10 ∷ [])

abbrev stands : ℕ → List ℕ → Bool
stands at [] = true
stands at (byte ∷ more) = may_stand at byte && stands (suc at) more

first_true : (a b : Bool) → (a && b) ≡ true → a ≡ true
first_true true b is = refl
first_true false b is = is

next_true : (a b : Bool) → (a && b) ≡ true → b ≡ true
next_true true b is = is
next_true false b is = absurd (false≢true is)

from_stands : (at : ℕ) (l : List ℕ) → stands at l ≡ true → StandFrom at l
from_stands at [] is = tt
from_stands at (byte ∷ more) is = (
  first_true (may_stand at byte) (stands (suc at) more) is,
  from_stands (suc at) more (next_true (may_stand at byte) (stands (suc at) more) is),
)

filled : (l whole : List ℕ) → length l ≤ length whole → StandFrom 0 l → StandFrom 0 whole
    → StandFrom 0 (l ++ drop (length l) whole)
filled l whole fits stand stands =
    stand_both 0 (length l) l (drop (length l) whole) (omega arith) stand
    (stand_dropped whole (length l) fits stands)

filled_len : (l whole : List ℕ) → length l ≤ length whole
    → length (l ++ drop (length l) whole) ≡ length whole
filled_len l whole fits =
    omega (arith, fits, length-append l (drop (length l) whole), length-drop (length l) whole)

-- ---- what is said of a line
pub left_where_all : (line : List ℕ) → length line ≤ 71 → StandFrom 0 line → BeginsLine line
left_where_all line fits stand = (
  drop (length line) blank,
  record_line (line ++ drop (length line) blank) (filled_len line blank fits)
      (filled line blank fits stand (from_stands 0 blank refl)),
)

pub not_left : (line : List ℕ) (at : ℕ) → at < length line
    → may_stand at (get_or line at 0) ≡ false → BeginsLine line → ⊥
not_left line at low is left =
    let all : StandFrom 0 line =
    stand_first 0 line left.0 (line_stands (line ++ left.0) left.1)
    in
    let rest : StandFrom at (drop at line) = stand_dropped line at (omega (arith, low)) all in
    let here : StandFrom at (get_or line at 0 ∷ drop (at + 1) line) =
    subst (λ l. StandFrom at l) (drop_more line at 0 low) rest
    in
    false≢true (sym is ∙ here.0)

pub stand_more : (line : List ℕ) (at : ℕ) → at < length line → StandFrom 0 (take at line)
    → may_stand at (get_or line at 0) ≡ true → StandFrom 0 (take (at + 1) line)
stand_more line at low stand here =
    subst (λ l. StandFrom 0 l) (sym (take_more line at 0 low))
    (stand_both 0 at (take at line) (get_or line at 0 ∷ [])
    (omega (arith, low, length-take-le at line (omega (arith, low)))) stand (here, tt))
