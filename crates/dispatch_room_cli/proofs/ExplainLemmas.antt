-- The words before the option that explains a failure.
use Rattle.std.proofs.Common.{Bool, List, Some, [], ap, arith, codes, get_or, length, map, refl}
use Rattle.std.proofs.Common.{suc, sym, zero, false, true, ℕ, ◌+◌, ◌<◌, ◌∙◌, ◌∷◌, ◌≡◌, ◌≢◌, ◌≤◌}
use Rattle.std.specs.Prelude.{slice_get}
use Rattle.std.specs.Str.{bytes_eq}
use Rattle.std.proofs.lemmas.Slice.Eq.{bytes_eq-Decides}
use Rattle.dispatch_room_cli.specs.ExplainedFailures.{Explains}
use borrow.Author.Count.{below_more}

-- none of the first so many words is the option or `--`
pub record IsNeither (words : List (List ℕ)) (count : ℕ) : Type 0 where
  pub option : (k : ℕ) → k < count → slice_get words k ≢ Some (codes "--explain")
  pub end : (k : ℕ) → k < count → slice_get words k ≢ Some (codes "--")

pub word_at : {X : Type 0} (f : X → List ℕ) (xs : List X) (i : ℕ) (d : X) → i < length xs
    → slice_get (map f xs) i ≡ Some (f (get_or xs i d))
word_at f [] i d within = absurd (omega arith)
word_at f (x ∷ xs) zero d within = refl
word_at f (x ∷ xs) (suc i) d within = word_at f xs i d (omega arith)

within_length : (words : List (List ℕ)) (k : ℕ) (word : List ℕ) → slice_get words k ≡ Some word → k < length words
within_length [] k word is = cc
within_length (x ∷ words) zero word is = omega arith
within_length (x ∷ words) (suc k) word is =
    let rest = within_length words k word is in
    omega (arith, rest)

pub neither_first : (words : List (List ℕ)) → IsNeither words 0
neither_first words =
    record { option = λ k less. absurd (omega (arith, less)); end = λ k less. absurd (omega (arith, less)) }

pub neither_more : (words : List (List ℕ)) (i : ℕ) (word : List ℕ) → IsNeither words i
    → slice_get words i ≡ Some word → word ≢ codes "--explain" → word ≢ codes "--" → IsNeither words (i + 1)
neither_more words i word before here option end = record {
  option = below_more (λ k. slice_get words k ≢ Some (codes "--explain")) i before.option
      (λ is. option (same word _ (sym here ∙ is)));
  end = below_more (λ k. slice_get words k ≢ Some (codes "--")) i before.end (λ is. end (same word _ (sym here ∙ is)));
}
  where
    same : (a b : List ℕ) → Some a ≡ Some b → a ≡ b
    same a b is = cc

pub found : (words : List (List ℕ)) (i : ℕ) → IsNeither words i → slice_get words i ≡ Some (codes "--explain")
    → Explains words
found words i before is = record { place = i; option = is; before = before.end }

pub ended : (words : List (List ℕ)) (i : ℕ) → IsNeither words i → slice_get words i ≡ Some (codes "--")
    → ¬ Explains words
ended words i before is = λ explains.
    let not_less : ¬ (explains.place < i) = λ less. before.option explains.place less explains.option in
    let not_more : ¬ (i < explains.place) = λ less. explains.before i less is in
    let same : explains.place ≡ i = omega (arith, not_less, not_more) in
    let both : Some (codes "--") ≡ Some (codes "--explain") =
    sym is ∙ (ap (slice_get words) (sym same) ∙ explains.option) in
    cc

pub unfound : (words : List (List ℕ)) (i : ℕ) → IsNeither words i → length words ≤ i → ¬ Explains words
unfound words i before past = λ explains.
    let within = within_length words explains.place _ explains.option in
    before.option explains.place (omega (arith, within)) explains.option

-- what a test of two texts says
pub is_same : (one other : List ℕ) (test : Bool) → test ≡ bytes_eq one other → test ≡ true → one ≡ other
is_same one other test is holds = (bytes_eq-Decides one other).0 (sym is ∙ holds)

pub is_other : (one other : List ℕ) (test : Bool) → test ≡ bytes_eq one other → test ≡ false → one ≢ other
is_other one other test is fails = λ same.
    let holds : test ≡ true = is ∙ (bytes_eq-Decides one other).1 same in
    let both : true ≡ false = sym holds ∙ fails in
    cc
