-- Lemmas on whether a list begins as a chain does.
use Rattle.std.proofs.Common.{◌≡◌, ◌≢◌, ◌∙◌, refl, sym, ap, arith, ℕ, ◌+◌, ◌≤◌, ◌<◌, List, [], ◌++◌}
use Rattle.std.proofs.Common.{length, length-append, length-drop, take, drop, take-append-drop}
use Rattle.std.proofs.Common.{append_assoc, subst, Bool, true, false, Option, Some, None}
use Rattle.std.specs.Io.KnownBytes.{Keeps, prepend_known}
use Rattle.std.proofs.lemmas.Bool.{false≢true}
use Rattle.std.proofs.lemmas.List.{take-append-le, take_at}
use Rattle.std.proofs.lemmas.Slice.Eq.{bytes_eq-Decides}
use Rattle.std.specs.Str.{bytes_eq}
use Rattle.dispatch_room_journal.specs.declared.whole_records.ListForm.TheVariants.{New, Plain}
use Rattle.dispatch_room_journal.specs.Chains.{opening}
use Rattle.dispatch_room_journal.specs.CutRecords.{BeginsLine, IsTruncated}
use Rattle.dispatch_room_journal.specs.WholeRecords.{IsForm, IsFull}
use Rattle.dispatch_room_journal.specs.declared.record_headers.TheConstants.{HEADER}
use Rattle.dispatch_room_journal.proofs.WholeLemmas.{begins_kept, rest_kept}

not_same : (one other : List ℕ) → bytes_eq one other ≡ false → one ≢ other
not_same one other is = λ same. false≢true (sym is ∙ (bytes_eq-Decides one other).1 same)

opening_long : length opening ≡ 7
opening_long = refl

take_front : (text more : List ℕ) → take (length text) (text ++ more) ≡ text
take_front text more = take_at text more (length text) refl

-- the first bytes of the line, and not all of it
pub few_new : (text : List ℕ) → length text < 7 → bytes_eq (take (length text) opening) text ≡ true
    → IsForm text New
few_new text short is =
    let same : take (length text) opening ≡ text = (bytes_eq-Decides (take (length text) opening) text).0 is in
    let rest : List ℕ = drop (length text) opening in (
      rest,
      sym (take-append-drop (length text) opening) ∙ ap (λ t. t ++ rest) same,
      omega (arith, short, length-drop (length text) opening, opening_long),
    )

-- too few bytes for the line, and not the first of it
pub few_plain : (text : List ℕ) → length text < 7
    → bytes_eq (take (length text) opening) text ≡ false → IsForm text Plain
few_plain text short is = (
  λ more same. not_same (take (length text) opening) text is (ap (take (length text)) same ∙ take_front text more),
  λ rest same. absurd (omega (arith, short, ap length same, length-append opening rest, opening_long)),
  λ truncated. omega (arith, short, truncated.0),
)

-- enough bytes, and not those of the line, nor of the line before a record
pub full_plain : (kept rest text : List ℕ) → text ≡ kept ++ rest → 7 ≤ length kept
    → bytes_eq (take 7 kept) opening ≡ false → ¬ (IsTruncated text) → IsForm text Plain
full_plain kept rest text whole long is none = (
  λ more same. not_same (take 7 kept) opening is (sym (first more) ∙ ap (take 7) (sym same)),
  λ r same. not_same (take 7 kept) opening is (sym front ∙ ap (take 7) same ∙ take-append-le 7 opening r (omega arith)),
  none,
)
  where
    front : take 7 text ≡ take 7 kept
    front = ap (take 7) whole ∙ take-append-le 7 kept rest long

    first : (more : List ℕ) → take 7 (text ++ more) ≡ take 7 kept
    first more = take-append-le 7 text more (omega (arith, long, ap length whole, length-append kept rest)) ∙ front

-- the line, and what follows it
pub opened : (kept text : List ℕ) (left : Option (List ℕ)) → prepend_known kept left ≡ Some text
    → bytes_eq (take 7 kept) opening ≡ true
    → (rest : List ℕ) × (text ≡ opening ++ rest) × (prepend_known (drop 7 kept) left ≡ Some rest)
opened kept text None known is = absurd (cc)
opened kept text (Some more) known is =
    let whole : kept ++ more ≡ text = cc in
    let line : take 7 kept ≡ opening = (bytes_eq-Decides (take 7 kept) opening).0 is in (
      drop 7 kept ++ more,
      sym whole
          ∙ ap (λ t. t ++ more) (sym (take-append-drop 7 kept) ∙ ap (λ t. t ++ drop 7 kept) line)
          ∙ append_assoc opening (drop 7 kept) more,
      refl,
    )

-- what was to be read is now kept and to be read
pub filled_is : (before kept text : List ℕ) (first left : Option (List ℕ)) → before ≡ []
    → first ≡ Some text → Keeps (prepend_known before first) (prepend_known kept left)
    → prepend_known kept left ≡ Some text
filled_is before kept text None left none known keeps = absurd (cc)
filled_is before kept text (Some xs) None none known keeps = absurd keeps
filled_is before kept text (Some xs) (Some ys) none known keeps =
    let same : xs ≡ text = cc in
    ap (λ t. Some t) (keeps ∙ ap (λ t. t ++ xs) none ∙ same)

-- what is known to be left stays known
pub keeps_known : (first left : Option (List ℕ)) (text : List ℕ) → first ≡ Some text
    → Keeps first left → left ≡ Some text
keeps_known None left text known keeps = absurd (cc)
keeps_known (Some xs) None text known keeps = absurd keeps
keeps_known (Some xs) (Some ys) text known keeps =
    let same : xs ≡ text = cc in ap (λ t. Some t) (keeps ∙ same)

-- a text begins with the line of a record where what is kept of it does
pub truncated_kept : (kept text : List ℕ) (left : Option (List ℕ)) (full : Bool)
    → IsFull HEADER kept left full → prepend_known kept left ≡ Some text
    → (IsTruncated kept → IsTruncated text) × (IsTruncated text → IsTruncated kept)
truncated_kept kept text left false (few, ends) is =
    let all = rest_kept kept text left ends is in (
      λ x. subst (λ (t : List ℕ). IsTruncated t) (sym all) x,
      λ x. subst (λ (t : List ℕ). IsTruncated t) all x,
    )
truncated_kept kept text left true long is =
    let more = begins_kept kept text left is in
    let front : take HEADER text ≡ take HEADER kept =
    ap (take HEADER) more.1 ∙ take-append-le HEADER kept more.0 long in (
      λ x. (
        omega (arith, long, ap length more.1, length-append kept more.0),
        subst (λ (t : List ℕ). BeginsLine t) (sym front) x.1,
      ),
      λ x. (long, subst (λ (t : List ℕ). BeginsLine t) front x.1),
    )
