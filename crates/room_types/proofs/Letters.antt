-- Texts of ASCII letters, as callsigns and tokens, are UTF-8.
use Rattle.std.proofs.Common.{◌≡◌, ◌<◌, ℕ, List, Bool, true, arith}
use Rattle.std.specs.List.{list_all}
use Rattle.std.specs.Str.{IsUtf8}
use Rattle.std.proofs.lemmas.Bool.{and_parts}
use Rattle.std.proofs.lemmas.Bool.Decides.{nat_tests}
use Rattle.std.proofs.lemmas.List.Sums.{AllPass-from_list_all}
use Rattle.std.proofs.lemmas.Str.{IsUtf8-from_ascii}
use Rattle.std.proofs.lemmas.Str.Ascii.{IsAscii-from_all}
use Rattle.room_types.specs.Texts.{is_callsign, is_callsign_letter, is_token, is_token_letter}

-- letters that are all ASCII make a text
pub letters_text : (is_letter : ℕ → Bool) → ((b : ℕ) → is_letter b ≡ true → b < 128)
    → (text : List ℕ) → list_all is_letter text ≡ true → IsUtf8 text
letters_text is_letter low text all =
    IsUtf8-from_ascii text
    (IsAscii-from_all text (λ k d inside. low _ (AllPass-from_list_all is_letter text all k d inside)))

callsign_letter : (b : ℕ) → is_callsign_letter b ≡ true → b < 128
callsign_letter b is = grind (arith, nat_tests)

token_letter : (b : ℕ) → is_token_letter b ≡ true → b < 128
token_letter b is = grind (arith, nat_tests)

pub callsign_text : (text : List ℕ) → is_callsign text ≡ true → IsUtf8 text
callsign_text text is = letters_text is_callsign_letter callsign_letter text (and_parts _ _ is).1

pub token_text : (text : List ℕ) → is_token text ≡ true → IsUtf8 text
token_text text is = letters_text is_token_letter token_letter text (and_parts _ _ is).1
