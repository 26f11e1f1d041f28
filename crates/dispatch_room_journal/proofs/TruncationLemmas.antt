-- Lemmas on what is left of a truncated list: no list begins so, whichever byte of it was changed.
use Rattle.std.proofs.Common.{◌≡◌, ◌∙◌, refl, sym, ap, arith, ℕ, List, [], ◌∷◌, ◌++◌, length, take}
use Rattle.std.proofs.Common.{drop, true, false, All, ◌⊎◌, inl, inr}
use Rattle.std.proofs.lemmas.Bool.{false≢true}
use Rattle.std.proofs.lemmas.List.Elements.{All-head, All-tail}
use Rattle.std.specs.Char.{is_ascii_digit}
use Rattle.room_model.specs.declared.digests.StartDigest.{StartDigest}
use Rattle.room_model.specs.declared.digests.Version.{Version}
use Rattle.room_model.specs.declared.digests.Version.TheVariants.{First, Second}
use Rattle.dispatch_room_journal.specs.declared.record_headers.TheConstants.{HEADER}
use Rattle.dispatch_room_journal.specs.Chains.{opening}
use Rattle.dispatch_room_journal.specs.ChangedChains.{BeginsList, IsChanged, IsNeverTruncated}
use Rattle.dispatch_room_journal.specs.CutRecords.{IsTruncated}
use Rattle.dispatch_room_journal.specs.Entries.{Entry, answer, head_words, message, room, text_of}
use Rattle.dispatch_room_journal.proofs.TextLemmas.{head}

abbrev IsDigit : ℕ → Type 0
IsDigit byte = is_ascii_digit byte ≡ true

-- the first two bytes of a text
record Two (text : List ℕ) (P : ℕ → Type 0) : Type 0 where
  one : ℕ
  other : ℕ
  rest : List ℕ
  is : text ≡ one ∷ other ∷ rest
  first : P one
  second : P other

-- those of the line before a record are digits
digits : (now : List ℕ) → IsTruncated now → Two now IsDigit
digits [] x = absurd (omega (arith, x.0))
digits (a ∷ []) x = absurd (omega (arith, x.0))
digits (a ∷ b ∷ t) x =
    go x.1.1.size (32 ∷ (x.1.1.check ++ 10 ∷ [])) x.1.1.five x.1.1.digits x.1.1.is
  where
    go : (size rest : List ℕ) → length size ≡ 5 → All IsDigit size
        → take HEADER (a ∷ b ∷ t) ++ x.1.0 ≡ size ++ rest → Two (a ∷ b ∷ t) IsDigit
    go [] rest five are is = absurd (omega (arith, five))
    go (d ∷ []) rest five are is = absurd (omega (arith, five))
    go (d ∷ e ∷ more) rest five are is = record {
      one = a;
      other = b;
      rest = t;
      is = refl;
      first = ap is_ascii_digit (ap head is) ∙ All-head IsDigit d (e ∷ more) are;
      second =
          ap is_ascii_digit (ap (λ l. head (drop 1 l)) is)
          ∙ All-head IsDigit e more (All-tail IsDigit d (e ∷ more) are);
    }

abbrev IsOther : ℕ → Type 0
IsOther byte = is_ascii_digit byte ≡ false

-- those of a list are none
head_begins : (version : Version) (t : List ℕ) → Two (head_words version ++ t) IsOther
head_begins First t = record {
  one = 114;
  other = 111;
  rest = drop 2 (head_words First ++ t);
  is = refl;
  first = refl;
  second = refl;
}
head_begins Second t = record {
  one = 114;
  other = 111;
  rest = drop 2 (head_words Second ++ t);
  is = refl;
  first = refl;
  second = refl;
}

two_more : (t more : List ℕ) → Two t IsOther → Two (t ++ more) IsOther
two_more t more x = record {
  one = x.one;
  other = x.other;
  rest = x.rest ++ more;
  is = ap (λ l. l ++ more) x.is;
  first = x.first;
  second = x.second;
}

entry_begins : (e : Entry) → Two (text_of e) IsOther
entry_begins (room h) = two_more _ _ (head_begins h.version h.digits)
entry_begins (message at bytes) = record {
  one = 109;
  other = 101;
  rest = drop 2 (text_of (message at bytes));
  is = refl;
  first = refl;
  second = refl;
}
entry_begins (answer status) = record {
  one = 97;
  other = 110;
  rest = drop 2 (text_of (answer status));
  is = refl;
  first = refl;
  second = refl;
}

list_begins : (text : List ℕ) → BeginsList text → Two text IsOther
list_begins text (inl (rest, is)) = record {
  one = 108;
  other = 105;
  rest = drop 2 opening ++ rest;
  is = is;
  first = refl;
  second = refl;
}
list_begins text (inr (e, rest, is_e, is)) = rw is (two_more (text_of e) rest (entry_begins e))

same_digit : (one other : ℕ) → one ≡ other → IsOther one → ¬ (IsDigit other)
same_digit one other same none digit = false≢true (sym none ∙ ap is_ascii_digit same ∙ digit)

pub never_truncated_law : IsNeverTruncated
never_truncated_law text now begins (inl same) truncated =
    let l = list_begins text begins in
    let d = digits now truncated in
    same_digit l.one d.one (ap head (sym l.is ∙ same ∙ d.is)) l.first d.first
never_truncated_law text now begins (inr x) truncated = go x.front x.before x.after
  where
    l : Two text IsOther
    l = list_begins text begins

    d : Two now IsDigit
    d = digits now truncated

    go : (front : List ℕ) → text ≡ front ++ x.byte ∷ x.back → now ≡ front ++ x.other ∷ x.back → ⊥
    go [] before after =
        let same = ap (λ t. head (drop 1 t)) (sym l.is ∙ before) in
        let also = ap (λ t. head (drop 1 t)) (sym d.is ∙ after) in
        same_digit l.other d.other (same ∙ sym also) l.second d.second
    go (k ∷ front) before after =
        let same = ap head (sym l.is ∙ before) in
        let also = ap head (sym d.is ∙ after) in
        same_digit l.one d.one (same ∙ sym also) l.first d.first
