-- The lines of a text, put behind a list one after another.
use Rattle.std.proofs.Common.{All, List, [], Option, ap, arith, inl, inr, length, refl, sym, ℕ}
use Rattle.std.proofs.Common.{◌++◌, ◌<◌, ◌∙◌, ◌∷◌, ◌≡◌, ◌⊎◌}
use Rattle.std.proofs.lemmas.List.{append-nil, append_assoc}
use Rattle.std.proofs.lemmas.List.Elements.{All-append, All-cons, All-nil}
use Rattle.std.proofs.lemmas.Grind.{flat_map-append}
use Rattle.std.specs.List.{flat_map}
use Rattle.dispatch_room_journal.specs.RowRuns.{PutsRow}
use Rattle.dispatch_room_journal.specs.TextParts.{Lacks}
use Rattle.dispatch_room_journal.specs.declared.list_ends.ListEnd.{ListEnd}
use Rattle.dispatch_room_changes.specs.KeptImports.{AreLinesOf, PutsRows}

-- a line with its end
abbrev ended : List ℕ → List ℕ
ended line = line ++ 10 ∷ []

ended_more : (lines : List (List ℕ)) (line : List ℕ)
    → flat_map ended (lines ++ line ∷ []) ≡ flat_map ended lines ++ (line ++ 10 ∷ [])
ended_more lines line =
    flat_map-append ended lines (line ∷ []) ∙ ap (λ t. flat_map ended lines ++ t) (append-nil (ended line))

-- these lines were taken of a text, and this is left
pub record AreTaken (text left : List ℕ) (lines : List (List ℕ)) : Type 0 where
  pub are : All (Lacks 10) lines
  pub is : (flat_map (λ line. line ++ 10 ∷ []) lines ++ left ≡ text)
      ⊎ ((left ≡ []) × (flat_map (λ line. line ++ 10 ∷ []) lines ≡ text ++ 10 ∷ []))

pub none_taken : (text : List ℕ) → AreTaken text text []
none_taken text = record { are = All-nil _; is = inl refl }

pub taken_more : (text left line rest : List ℕ) (lines : List (List ℕ)) → AreTaken text left lines
    → Lacks 10 line → (left ≡ line ++ 10 ∷ rest) ⊎ ((left ≡ line) × (rest ≡ []))
    → 0 < length left → AreTaken text rest (lines ++ line ∷ [])
taken_more text left line rest lines taken clean front some = record {
  are = All-append (Lacks 10) lines (line ∷ []) taken.are (All-cons (Lacks 10) line [] clean (All-nil _));
  is = elim taken.is [
    | inl is ↦ elim front [
      | inl cut ↦
          inl (ap (λ t. t ++ rest) (ended_more lines line) ∙ append_assoc (flat_map ended lines) (ended line) rest
          ∙ ap (λ t. flat_map ended lines ++ t) (append_assoc line (10 ∷ []) rest ∙ sym cut) ∙ is)
      | inr last ↦
          inr (
            last.1,
            ended_more lines line ∙ sym (append_assoc (flat_map ended lines) line (10 ∷ []))
                ∙ ap (λ t. t ++ 10 ∷ []) (ap (λ t. flat_map ended lines ++ t) (sym last.0) ∙ is),
          )
    ]
    | inr none ↦ absurd (omega (arith, rw none.0 at some))
  ];
}

pub all_taken : (text left : List ℕ) (lines : List (List ℕ)) → AreTaken text left lines → left ≡ []
    → AreLinesOf text lines
all_taken text left lines taken none = record {
  are = taken.are;
  is = elim taken.is [
    | inl is ↦ inl (sym (append-nil (flat_map ended lines)) ∙ (rw none at is))
    | inr done ↦ inr done.1
  ];
}

pub puts_more : (end mid now : ListEnd) (before between after : Option (List ℕ)) (lines : List (List ℕ))
    (line : List ℕ) → PutsRows end mid before between lines → PutsRow mid now between after line
    → PutsRows end now before after (lines ++ line ∷ [])
puts_more end mid now before between after [] line same row =
    (now, after, rw (same.0, same.1) at row, (refl, refl))
puts_more end mid now before between after (first ∷ lines) line puts row =
    (puts.0, puts.1, puts.2, puts_more puts.0 mid now puts.1 between after lines line puts.3 row)
