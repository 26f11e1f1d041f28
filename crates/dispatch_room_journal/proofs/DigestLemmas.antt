-- Lemmas on digests.
use Rattle.std.proofs.Common.{◌≡◌, refl, arith, ℕ, ◌/◌, ◌%◌, ◌<◌, List, [], ◌∷◌, get_or, true, All}
use Rattle.std.proofs.lemmas.List.Elements.{All-from_recursion, All-get_or, All-cons, All-nil}
use Rattle.std.proofs.lemmas.List.Elements.{All-head, All-tail}
use Rattle.hex.specs.Hex.{encode_with, encode_lower, lower_digits}
use Rattle.dispatch_room_journal.specs.Entries.{is_digest_digit}

digits : All (λ byte. is_digest_digit byte ≡ true) lower_digits
digits = All-from_recursion (λ byte. is_digest_digit byte ≡ true) lower_digits (
  refl,
  (
    refl,
    (
      refl,
      (refl, (refl, (refl, (refl, (refl, (refl, (refl, (refl, (refl, (refl, (refl, (refl, (refl, tt))))))))))))),
    ),
  ),
)

digit : (k : ℕ) → k < 16 → is_digest_digit (get_or lower_digits k 0) ≡ true
digit k small = All-get_or (λ byte. is_digest_digit byte ≡ true) lower_digits k 0 small digits

-- bytes that are written in digits
pub digits_of : (bytes : List ℕ) → All (λ byte. byte < 256) bytes
    → All (λ byte. is_digest_digit byte ≡ true) (encode_lower bytes)
unfolding encode_with
digits_of [] small = All-nil (λ byte. is_digest_digit byte ≡ true)
digits_of (byte ∷ bytes) small =
    let low : byte < 256 = All-head (λ byte. byte < 256) byte bytes small in
    All-cons (λ byte. is_digest_digit byte ≡ true) (get_or lower_digits (byte / 16) 0)
    (get_or lower_digits (byte % 16) 0 ∷ encode_lower bytes) (digit (byte / 16) (omega (arith, low)))
    (All-cons (λ byte. is_digest_digit byte ≡ true) (get_or lower_digits (byte % 16) 0) (encode_lower bytes)
    (digit (byte % 16) (omega (arith, low)))
    (digits_of bytes (All-tail (λ byte. byte < 256) byte bytes small)))
