-- Lemmas on streams.
use Rattle.std.proofs.Common.{◌≡◌, ◌∙◌, refl, min, ◌==◌, ◌⊎◌, inl, inr, ◌≤◌, ℕ, ◌+◌, List, [], ◌++◌}
use Rattle.std.proofs.Common.{sym, ap, append-nil, append_assoc, ne_eqb, ◌||◌, Ok, take, drop, ◌-◌}
use Rattle.std.proofs.Common.{take_all, length-drop, Bool, true, false, Option, Some, None, arith}
use Rattle.std.proofs.Common.{◌<◌, length}
use Rattle.std.specs.Io.KnownBytes.{Keeps, Appends}
use Rattle.std.proofs.lemmas.Bool.{lt-ltb, cases_lt}
use Rattle.room_http_messages.specs.Streams.{took_none, CountsBy, known_count}

pub Keeps-refl : (known : Option (List ℕ)) → Keeps known known
Keeps-refl None = tt
Keeps-refl (Some xs) = refl

pub Keeps-trans : (a b c : Option (List ℕ)) → Keeps a b → Keeps b c → Keeps a c
Keeps-trans None b c first second = tt
Keeps-trans (Some xs) None c first second = absurd first
Keeps-trans (Some xs) (Some ys) None first second = second
Keeps-trans (Some xs) (Some ys) (Some zs) first second = second ∙ first

pub Appends-none : (known : Option (List ℕ)) → Appends known known []
Appends-none None = tt
Appends-none (Some xs) = sym (append-nil xs)

pub Appends-keeps : (a b c : Option (List ℕ)) (xs : List ℕ) → Appends a b xs → Keeps b c
    → Appends a c xs
Appends-keeps None b c xs first second = tt
Appends-keeps (Some held) None c xs first second = absurd first
Appends-keeps (Some held) (Some more) None xs first second = second
Appends-keeps (Some held) (Some more) (Some most) xs first second = second ∙ first

pub Appends-more : (a b c : Option (List ℕ)) (xs ys : List ℕ) → Appends a b xs → Appends b c ys
    → Appends a c (xs ++ ys)
Appends-more None b c xs ys first second = tt
Appends-more (Some held) None c xs ys first second = absurd first
Appends-more (Some held) (Some more) None xs ys first second = second
Appends-more (Some held) (Some more) (Some most) xs ys first second =
    second ∙ ap (λ t. t ++ ys) first ∙ append_assoc held xs ys

pub took_some : (before after : Bool) (n size : ℕ) → before ≡ false
    → after ≡ (before || took_none {E = Unit {0}} (Ok n) size) → (n ≡ 0 → ⊥) → after ≡ false
took_some before after n size sound is some = is ∙ rw (sound, ne_eqb n 0 some)

pub took_zero : (before after : Bool) (n size : ℕ) → before ≡ false
    → after ≡ (before || took_none {E = Unit {0}} (Ok n) size) → n ≡ 0 → 0 < size → after ≡ true
took_zero before after n size sound is none room = is ∙ rw (sound, none, lt-ltb 0 size room)

pub Appends-zero : (a b c : Option (List ℕ)) (xs ys : List ℕ) (n : ℕ) → Appends a b xs
    → Appends b c (take n ys) → n ≡ 0 → Appends a c xs
Appends-zero a b c xs ys n first second none = rw append-nil at (Appends-more a b c xs [] first (rw none at second))

-- what `&s[i..]` is
pub whole_rest : (s : List ℕ) (i : ℕ) → take (length s - i) (drop i s) ≡ drop i s
whole_rest s i = take_all (length s - i) (drop i s) (rw length-drop (omega arith))

pub length-whole_rest : (s : List ℕ) (i : ℕ)
    → length (take (length s - i) (drop i s)) ≡ length s - i
length-whole_rest s i = rw (whole_rest s i) (length-drop i s)

-- a count goes on by one while it is known
pub known_count-more : (n m : ℕ) → m ≡ min (n + 1) 4294967295
    → CountsBy 1 (known_count n) (known_count m)
unfolding known_count
known_count-more n m is = go (cases_lt n 4294967295)
  where
    below : n < 4294967295 → (last : Bool) → (m == 4294967295) ≡ last
        → CountsBy 1 (known_count n) (known_count m)
    below small true last = rw (ne_eqb n 4294967295 (omega arith), last) tt
    below small false last = rw (ne_eqb n 4294967295 (omega arith), last) (omega arith)

    above : m ≡ 4294967295 → (full : Bool) → (n == 4294967295) ≡ full
        → CountsBy 1 (known_count n) (known_count m)
    above most true full = rw (full, most) refl
    above most false full = rw (full, most) tt

    go : (n < 4294967295) ⊎ (4294967295 ≤ n) → CountsBy 1 (known_count n) (known_count m)
    go (inl small) = below small (m == 4294967295) refl
    go (inr large) = above (omega arith) (n == 4294967295) refl
