-- The letters of random bytes are those of a token.
use Rattle.std.proofs.Common.{[], ap, arith, Bor, drop, Err, is_ok, length, length-take-le, List}
use Rattle.std.proofs.Common.{MatchResult, None, Ok, Option, refl, Result, Some, SomeIff, sym, take}
use Rattle.std.proofs.Common.{take-append-drop, true, false, ℕ, ◌%◌, ◌<◌, ◌≡◌, ◌≤◌, ◌∙◌, ◌∷◌}
use Rattle.std.proofs.lemmas.Bool.{and_parts, false≢true}
use Rattle.std.proofs.lemmas.Bool.Decides.{nat_tests}
use Rattle.std.proofs.lemmas.List.Folds.{list_all-append}
use Rattle.std.proofs.lemmas.Option.{none-some, same_Some}
use Rattle.std.specs.List.{list_all}
use Rattle.std.specs.Result.{result_ok}
use Rattle.std.specs.Str.{IsUtf8}
use Rattle.room_types.proofs.Letters.{token_text}
use Rattle.room_types.specs.Texts.{is_token, is_token_letter, Token}
use Rattle.dispatch_room_tasks.specs.RandomTokens.{letter, letters_of}

is_letter : (n : ℕ) → n < 62 → is_token_letter (letter n) ≡ true
is_letter n small = grind (arith, nat_tests)

pub are_letters : (random : List ℕ) → list_all is_token_letter (letters_of random) ≡ true
are_letters [] = refl
are_letters (byte ∷ random) =
    grind (arith, nat_tests, are_letters random, is_letter (byte % 62) (omega arith))

are_token : (letters : List ℕ) → list_all is_token_letter letters ≡ true → 24 ≤ length letters
    → is_token (take 24 letters) ≡ true
are_token letters all enough =
    rw (length-take-le 24 letters enough) (and_parts _ _
    (sym (list_all-append is_token_letter (take 24 letters) (drop 24 letters))
    ∙ ap (list_all is_token_letter) (take-append-drop 24 letters) ∙ all)).0

-- bytes of which a reading fails are not the first of enough letters
pub not_enough : {E : Type 0} (letters first : List ℕ) (read : Result (Bor (List ℕ)) E)
    (P : Bor (List ℕ) → Type 0) (Q : E → Type 0) (found : Option Token)
    → list_all is_token_letter letters ≡ true → first ≡ take 24 letters
    → MatchResult read P (λ e. ¬ (IsUtf8 first) × Q e) → false ≡ is_ok read → found ≡ None
    → SomeIff found (24 ≤ length letters) (take 24 letters)
not_enough letters first (Ok text) P Q found all is cases fails none = absurd (false≢true fails)
not_enough letters first (Err e) P Q found all is cases fails none =
    rw none (λ enough. cases.0 (rw is (token_text _ (are_token letters all enough))))

-- what is read of the first of enough letters is their token
pub are_read : {E : Type 0} (letters first : List ℕ) (read : Result (Bor (List ℕ)) E)
    (text : Bor (List ℕ)) (Q : E → Type 0) (found : Option Token)
    → list_all is_token_letter letters ≡ true → first ≡ take 24 letters → 24 ≤ length letters
    → MatchResult read (λ s. (s.now ≡ first) × IsUtf8 first) Q → Some text ≡ result_ok read
    → SomeIff found (is_token text.now ≡ true) text.now
    → SomeIff found (24 ≤ length letters) (take 24 letters)
are_read letters first (Ok s) text Q None all is enough cases same none =
    absurd (none (rw (← same_Some _ _ (sym same), cases.0, is) (are_token letters all enough)))
are_read letters first (Ok s) text Q (Some token) all is enough cases same found =
    (enough, found.1 ∙ rw (← same_Some _ _ (sym same)) cases.0 ∙ is)
are_read letters first (Err e) text Q found all is enough cases same parsed =
    absurd (none-some _ (sym same))
