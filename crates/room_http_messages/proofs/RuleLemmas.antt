-- Lemmas on numerals and the rules of heads.
use Rattle.std.proofs.Common.{◌≡◌, ℕ, ◌+◌, ◌-◌, ◌*◌, ◌<◌, ◌≤◌, List, [], ◌∷◌, length, take, get_or}
use Rattle.std.proofs.Common.{true, min, arith, Bool, nat_lt, false, refl, None, Some}
use Rattle.std.specs.Prelude.{codes, ◌&&◌, ◌==◌}
use Rattle.std.specs.List.{list_all}
use Rattle.std.specs.Char.{is_ascii_digit, digit_value}
use Rattle.std.specs.Str.Parse.{digits_value}
use Rattle.std.proofs.lemmas.Bool.{le-ltb, lt-ltb}
use Rattle.std.proofs.lemmas.Bool.Decides.{nat_tests}
use Rattle.std.proofs.lemmas.Str.{digit_value_digit}
use Rattle.std.proofs.lemmas.List.{take_more}
use Rattle.std.proofs.lemmas.List.Folds.{list_all-append}
use Rattle.std.proofs.lemmas.Int.Digits.{digits_value_push}
use Rattle.room_types.specs.declared.refusal_statuses.Refusal.TheVariants.{BadMessage, BodyTooLong}
use Rattle.room_types.specs.declared.refusal_statuses.Refusal.TheVariants.{Expectation, Coding}
use Rattle.room_http_messages.specs.declared.limits.TheConstants.{BODY_LIMIT}
use Rattle.room_http_messages.specs.HeadFields.{Fields, is_there, values_of}
use Rattle.room_http_messages.specs.Rules.{body_length, fault_of, has_host_fault, has_length_fault}

pub all_digits_more : (xs : List ℕ) (i : ℕ) → i < length xs → is_ascii_digit (get_or xs i 0) ≡ true
    → list_all is_ascii_digit (take i xs) ≡ true → list_all is_ascii_digit (take (i + 1) xs) ≡ true
all_digits_more xs i below digit before =
    rw (take_more xs i 0 below, list_all-append is_ascii_digit (take i xs) (get_or xs i 0 ∷ []), before, digit)

pub bounded_more : (xs : List ℕ) (i n d m cap : ℕ) → i < length xs
    → n ≡ min (digits_value 10 (take i xs)) cap
    → d ≡ digit_value (get_or xs i 0) → m ≡ min (n * 10 + d) cap
    → m ≡ min (digits_value 10 (take (i + 1) xs)) cap
bounded_more xs i n d m cap below before digit next =
    let push : digits_value 10 (take (i + 1) xs) ≡ digits_value 10 (take i xs) * 10 + digit_value (get_or xs i 0) =
    rw (take_more xs i 0 below, digits_value_push 10 (take i xs) (get_or xs i 0)) in
    go (digits_value 10 (take i xs)) (digits_value 10 (take (i + 1) xs)) (digit_value (get_or xs i 0)) push before digit
    next
  where
    go : (a b e : ℕ) → b ≡ a * 10 + e → n ≡ min a cap → d ≡ e → m ≡ min (n * 10 + d) cap
        → m ≡ min b cap
    go a b e push before digit next = omega arith

-- a bounded number is above the bound where the number is
pub too_long : (n size : ℕ) → n ≡ min size 1025 → 1024 < n → nat_lt 1024 size ≡ true
too_long n size is above = lt-ltb 1024 size (omega arith)

pub not_too_long : (n size : ℕ) → n ≡ min size 1025 → n ≤ 1024
    → (nat_lt 1024 size ≡ false) × (n ≡ size)
not_too_long n size is below = (le-ltb 1024 size (omega arith), omega arith)

pub digit_is : (c d : ℕ) → is_ascii_digit c ≡ true → d ≡ c - 48 → d ≡ digit_value c
digit_is c d digit is = omega (arith, digit_value_digit c (grind (arith, nat_tests)))

pub is_other : (n : ℕ) → ¬ (n ≡ 1) → n == 1 ≡ false
is_other n other = grind (arith, nat_tests, other)

pub first_fails : (a b : Bool) → a ≡ false → a && b ≡ false
first_fails a b is = rw is refl

pub second_fails : (a : Bool) {b : Bool} → b ≡ false → a && b ≡ false
second_fails true is = is
second_fails false is = refl

-- the rules in their order: the first that is broken, where those before it hold
module _ (minor : ℕ) (fields : Fields) where
  pub breaks_host : has_host_fault minor (values_of (codes "host") fields) ≡ true
      → fault_of minor fields ≡ Some BadMessage
  unfolding fault_of
  breaks_host host = rw host refl

  module _ (host : has_host_fault minor (values_of (codes "host") fields) ≡ false) where
    pub breaks_coding : is_there (values_of (codes "transfer-encoding") fields) ≡ true
        → fault_of minor fields ≡ Some Coding
    unfolding fault_of
    breaks_coding coding = rw (host, coding) refl

    module _ (coding : is_there (values_of (codes "transfer-encoding") fields) ≡ false) where
      pub breaks_length : has_length_fault (values_of (codes "content-length") fields) ≡ true
          → fault_of minor fields ≡ Some BadMessage
      unfolding fault_of
      breaks_length sized = rw (host, coding, sized) refl

      module _ (sized : has_length_fault (values_of (codes "content-length") fields) ≡ false) where
        pub breaks_expectation : minor == 1 ≡ true
            → is_there (values_of (codes "expect") fields) ≡ true
            → fault_of minor fields ≡ Some Expectation
        unfolding fault_of
        breaks_expectation later expects = rw (host, coding, sized, later, expects) refl

        module _ (none : (minor == 1) && is_there (values_of (codes "expect") fields) ≡ false) where
          pub breaks_limit : nat_lt BODY_LIMIT (body_length fields) ≡ true
              → fault_of minor fields ≡ Some BodyTooLong
          unfolding fault_of
          breaks_limit long = rw (host, coding, sized, none, long) refl

          pub breaks_none : nat_lt BODY_LIMIT (body_length fields) ≡ false
              → fault_of minor fields ≡ None
          unfolding fault_of
          breaks_none short = rw (host, coding, sized, none, short) refl
