-- Lemmas on chains in which one byte became another one.
use Rattle.std.proofs.Common.{◌≡◌, ◌≢◌, ◌∙◌, refl, sym, ap, subst, arith, ℕ, zero, suc, ◌+◌, ◌≤◌}
use Rattle.std.proofs.Common.{List, [], ◌∷◌, ◌++◌, length, length-append, length-take-le, take}
use Rattle.std.proofs.Common.{drop, take-append-drop, append_assoc, append-nil, Bool, true, false}
use Rattle.std.proofs.Common.{min, All, ◌⊎◌, inl, inr, if◌then◌else◌}
use Rattle.std.proofs.lemmas.List.{append_cancel_left, drop_at, take_at}
use Rattle.std.proofs.lemmas.List.Elements.{All-head, All-tail}
use Rattle.dispatch_room_journal.specs.declared.journal_inbox.TheConstants.{ENTRY_ROOM}
use Rattle.dispatch_room_journal.specs.declared.record_headers.TheConstants.{HEADER}
use Rattle.dispatch_room_journal.specs.declared.record_fronts.Front.TheVariants.{Short, Wrong}
use Rattle.dispatch_room_journal.specs.declared.record_fronts.Front.TheVariants.{Whole}
use Rattle.dispatch_room_journal.specs.Chains.{IsBody, chain_text, first_check, header, is_end}
use Rattle.dispatch_room_journal.specs.Chains.{next_check, record_text, sha256_digits}
use Rattle.dispatch_room_journal.specs.ChainLaws.{AreBodies, HasTwin}
use Rattle.dispatch_room_journal.specs.ChangedChains.{IsChanged, IsNeverLost}
use Rattle.dispatch_room_journal.specs.CutRecords.{IsCutRecord, SaysEntry}
use Rattle.dispatch_room_journal.specs.RecordFronts.{front_of, number_in, sized_front}
use Rattle.dispatch_room_journal.specs.WholeEntries.{most_bytes}
use Rattle.dispatch_room_journal.proofs.AgainLemmas.{five_digits}
use Rattle.dispatch_room_journal.proofs.ChainLemmas.{same_or_not}
use Rattle.dispatch_room_journal.proofs.CutLemmas.{never_cut_law, no_beginning}
use Rattle.dispatch_room_journal.proofs.FrontLemmas.{front_sized, number_stays, sized_whole}
use Rattle.dispatch_room_journal.proofs.PlainLemmas.{digits_long}
use Rattle.dispatch_room_journal.proofs.TextLemmas.{head, parts_of, split}

-- ---- one byte is changed
-- of the two parts of a text one stays as it is
behind : (n : ℕ) (front back : List ℕ) (byte other : ℕ)
    → (take n (front ++ byte ∷ back) ≡ take n (front ++ other ∷ back))
    ⊎ (drop n (front ++ byte ∷ back) ≡ drop n (front ++ other ∷ back))
behind zero front back byte other = inl refl
behind (suc n) [] back byte other = inr refl
behind (suc n) (x ∷ front) back byte other = go (behind n front back byte other)
  where
    go : (take n (front ++ byte ∷ back) ≡ take n (front ++ other ∷ back))
        ⊎ (drop n (front ++ byte ∷ back) ≡ drop n (front ++ other ∷ back))
        → (x ∷ take n (front ++ byte ∷ back) ≡ x ∷ take n (front ++ other ∷ back))
        ⊎ (drop n (front ++ byte ∷ back) ≡ drop n (front ++ other ∷ back))
    go (inl same) = inl (ap (λ t. x ∷ t) same)
    go (inr same) = inr same

one_part : (n : ℕ) (text now : List ℕ) → IsChanged text now
    → (take n text ≡ take n now) ⊎ (drop n text ≡ drop n now)
one_part n text now x = rw (x.before, x.after) (behind n x.front x.back x.byte x.other)

same_length : (text now : List ℕ) → IsChanged text now → length text ≡ length now
same_length text now x =
    omega (
      arith,
      ap length x.before,
      ap length x.after,
      length-append x.front (x.byte ∷ x.back),
      length-append x.front (x.other ∷ x.back),
    )

-- behind what is the same in both
changed_tail : (front back a b : List ℕ) (byte other k : ℕ) → k ∷ a ≡ front ++ byte ∷ back
    → k ∷ b ≡ front ++ other ∷ back → byte ≢ other → IsChanged a b
changed_tail [] back a b byte other k before after differ =
    absurd (differ (sym (ap head before) ∙ ap head after))
changed_tail (y ∷ front) back a b byte other k before after differ = record {
  front = front;
  back = back;
  byte = byte;
  other = other;
  before = ap (drop 1) before;
  after = ap (drop 1) after;
  differ = differ;
}

changed_rest : (r a b : List ℕ) → IsChanged (r ++ a) (r ++ b) → IsChanged a b
changed_rest [] a b x = x
changed_rest (k ∷ r) a b x =
    changed_rest r a b
    (changed_tail x.front x.back (r ++ a) (r ++ b) x.byte x.other k x.before x.after x.differ)

-- ---- a record and what follows it
abbrev line_of : List ℕ → List ℕ → List ℕ
line_of check body = header (length body) (next_check sha256_digits check body)

module _ (check body rest : List ℕ) where
  line_long : length (line_of check body) ≡ HEADER
  line_long =
      omega (arith, digits_long (check ++ body), length-append (next_check sha256_digits check body) (10 ∷ []))

  parts : record_text sha256_digits check body ++ rest ≡ line_of check body ++ (body ++ rest)
  parts = append_assoc (line_of check body) body rest

  line_is : take HEADER (record_text sha256_digits check body ++ rest) ≡ line_of check body
  line_is = ap (take HEADER) parts ∙ take_at (line_of check body) (body ++ rest) HEADER line_long

  body_is : drop HEADER (record_text sha256_digits check body ++ rest) ≡ body ++ rest
  body_is = ap (drop HEADER) parts ∙ drop_at (line_of check body) (body ++ rest) HEADER line_long

  record_long : HEADER + length body ≤ length (record_text sha256_digits check body ++ rest)
  record_long =
      omega (
        arith,
        line_long,
        ap length parts,
        length-append (line_of check body) (body ++ rest),
        length-append body rest,
      )

-- lines have the checks that they say
line_check : (check one other : List ℕ) → line_of check one ≡ line_of check other
    → next_check sha256_digits check one ≡ next_check sha256_digits check other
line_check check one other same =
    (parts_of (next_check sha256_digits check one) (next_check sha256_digits check other) (10 ∷ []) (10 ∷ [])
    (ap (drop 6) same) (digits_long (check ++ one) ∙ sym (digits_long (check ++ other)))).0

-- a record that is as long as its line says is not too short
never_short : (a b : Bool) (size : ℕ) (check : List ℕ)
    → (if a then (if b then Whole size check else Wrong) else Wrong) ≢ Short
never_short true true size check same = cc
never_short true false size check same = cc
never_short false b size check same = cc

long_enough : (check text : List ℕ) (has_ended : Bool) (size : ℕ) → number_in text ≡ size → 1 ≤ size
    → size ≤ ENTRY_ROOM → HEADER + size ≤ length text → front_of sha256_digits check has_ended text ≢ Short
long_enough check text has_ended size is some fits long short =
    never_short _ _ size _
    (sym (sized_whole sha256_digits check has_ended text size some fits long)
    ∙ ap (sized_front sha256_digits check has_ended text) (sym is)
    ∙ sym (front_sized sha256_digits check has_ended text (omega (arith, long))) ∙ short)

-- a number is said by the first bytes
number_of : (one other : List ℕ) → HEADER ≤ length one → HEADER ≤ length other
    → take HEADER one ≡ take HEADER other → number_in one ≡ number_in other
number_of one other long also same =
    by_front one long ∙ ap number_in same ∙ sym (by_front other also)
  where
    by_front : (t : List ℕ) → HEADER ≤ length t → number_in t ≡ number_in (take HEADER t)
    by_front t fits =
        ap number_in (sym (take-append-drop HEADER t))
        ∙ number_stays (take HEADER t) (drop HEADER t) (omega (arith, fits, length-take-le HEADER t fits))

-- ---- what follows whole records
abbrev EndsBy : List ℕ → Type 0
EndsBy rest = (rest ≡ [])
    ⊎ ((check : List ℕ) × (has_ended : Bool) × (front_of sha256_digits check has_ended rest ≡ Short)
    × IsCutRecord rest)

-- a record that was changed, with what follows it, is not the beginning of one
module _ (check body rest now : List ℕ) (is_one : IsBody body) (says : SaysEntry body)
    (x : IsChanged (record_text sha256_digits check body ++ rest) now) where
  now_long : HEADER + length body ≤ length now
  now_long = omega (arith, record_long check body rest, same_length _ now x)

  kept_line : take HEADER (record_text sha256_digits check body ++ rest) ≡ take HEADER now → ¬ (EndsBy now)
  kept_line same (inl none) = omega (arith, now_long, ap length none)
  kept_line same (inr (at, has_ended, short, cut)) =
      long_enough at now has_ended (length body)
      (sym (number_of (record_text sha256_digits check body ++ rest) now
      (omega (arith, record_long check body rest)) (omega (arith, now_long)) same)
      ∙ five_digits (length body) (omega (arith, is_one)))
      is_one.0 is_one.1 now_long short

  kept_body : drop HEADER (record_text sha256_digits check body ++ rest) ≡ drop HEADER now → ¬ (EndsBy now)
  kept_body same (inl none) = omega (arith, now_long, ap length none)
  kept_body same (inr (at, has_ended, short, cut)) =
      never_cut_law (take HEADER now) body rest (length-take-le HEADER now (omega (arith, now_long))) says
      (subst (λ (t : List ℕ). IsCutRecord t)
      (sym (take-append-drop HEADER now)
      ∙ ap (λ t. take HEADER now ++ t) (sym same ∙ body_is check body rest)) cut)

  never_end : ¬ (EndsBy now)
  never_end ends = go (one_part HEADER _ now x)
    where
      go : (take HEADER (record_text sha256_digits check body ++ rest) ≡ take HEADER now)
          ⊎ (drop HEADER (record_text sha256_digits check body ++ rest) ≡ drop HEADER now) → ⊥
      go (inl same) = kept_line same ends
      go (inr same) = kept_body same ends

-- the record is the same, or its hash has a twin
same_body : (check one other rest now : List ℕ) → SaysEntry one → SaysEntry other
    → IsChanged (record_text sha256_digits check one ++ rest) (record_text sha256_digits check other ++ now)
    → (one ≡ other) ⊎ HasTwin sha256_digits
same_body check one other rest now says also x = go (one_part HEADER _ _ x)
  where
    by_text : (check ++ one ≡ check ++ other) ⊎ (check ++ one ≢ check ++ other)
        → next_check sha256_digits check one ≡ next_check sha256_digits check other
        → (one ≡ other) ⊎ HasTwin sha256_digits
    by_text (inl same) hashes = inl (append_cancel_left check one other same)
    by_text (inr differ) hashes = inr (inl (check ++ one, check ++ other, differ, hashes))

    by_bytes : ((c : List ℕ) × (other ≡ one ++ c) × (rest ≡ c ++ now))
        ⊎ ((c : List ℕ) × (one ≡ other ++ c) × (now ≡ c ++ rest)) → one ≡ other
    by_bytes (inl (c, longer, next)) =
        sym (longer ∙ ap (λ t. one ++ t) (no_beginning one other c says also longer) ∙ append-nil one)
    by_bytes (inr (c, longer, next)) =
        longer ∙ ap (λ t. other ++ t) (no_beginning other one c also says longer) ∙ append-nil other

    go : (take HEADER (record_text sha256_digits check one ++ rest)
        ≡ take HEADER (record_text sha256_digits check other ++ now))
        ⊎ (drop HEADER (record_text sha256_digits check one ++ rest)
        ≡ drop HEADER (record_text sha256_digits check other ++ now))
        → (one ≡ other) ⊎ HasTwin sha256_digits
    go (inl same) =
        by_text (same_or_not (check ++ one) (check ++ other))
        (line_check check one other (sym (line_is check one rest) ∙ same ∙ line_is check other now))
    go (inr same) =
        inl (by_bytes (split one other rest now (sym (body_is check one rest) ∙ same ∙ body_is check other now)))

-- ---- records, one after another
abbrev chained : List ℕ → List (List ℕ) → List ℕ
chained check bodies = chain_text sha256_digits check bodies

abbrev Stay : List ℕ → List (List ℕ) → List (List ℕ) → Type 0
Stay check bodies found =
    (length (chained check bodies) ≤ length (chained check found)) ⊎ HasTwin sha256_digits

one_more : (check body : List ℕ) (bodies found : List (List ℕ))
    → Stay (next_check sha256_digits check body) bodies found → Stay check (body ∷ bodies) (body ∷ found)
one_more check body bodies found (inr twin) = inr twin
one_more check body bodies found (inl more) =
    let r = record_text sha256_digits check body in
    let next = next_check sha256_digits check body in
    inl (omega (arith, more, length-append r (chained next bodies), length-append r (chained next found)))

stay_more : (check one other rest left : List ℕ) (bodies found : List (List ℕ)) → one ≡ other
    → IsChanged (record_text sha256_digits check one ++ (chained (next_check sha256_digits check one) bodies ++ rest))
    (record_text sha256_digits check other ++ (chained (next_check sha256_digits check other) found ++ left))
    → (IsChanged (chained (next_check sha256_digits check one) bodies ++ rest)
    (chained (next_check sha256_digits check one) found ++ left)
    → Stay (next_check sha256_digits check one) bodies found)
    → Stay check (one ∷ bodies) (other ∷ found)
stay_more check one other rest left bodies found same x later =
    subst (λ (b : List ℕ). Stay check (one ∷ bodies) (b ∷ found)) same
    (one_more check one bodies found (later (changed_rest (record_text sha256_digits check one) _ _
    (subst (λ (b : List ℕ). IsChanged
    (record_text sha256_digits check one ++ (chained (next_check sha256_digits check one) bodies ++ rest))
    (record_text sha256_digits check b ++ (chained (next_check sha256_digits check b) found ++ left))) (sym same) x))))

all_stay : (bodies found : List (List ℕ)) (check rest left : List ℕ) (has_ended : Bool)
    → AreBodies has_ended bodies → All SaysEntry bodies → All SaysEntry found
    → IsChanged (chained check bodies ++ rest) (chained check found ++ left) → EndsBy left
    → Stay check bodies found
all_stay [] found check rest left has_ended are says also x ends = inl (omega arith)
all_stay (body ∷ bodies) [] check rest left has_ended are says also x ends =
    absurd (never_end check body (chained (next_check sha256_digits check body) bodies ++ rest) left are.0
    (All-head SaysEntry body bodies says)
    (subst (λ (t : List ℕ). IsChanged t left)
    (append_assoc (record_text sha256_digits check body) (chained (next_check sha256_digits check body) bodies) rest) x)
    ends)
all_stay (body ∷ bodies) (other ∷ found) check rest left has_ended are says also x ends =
    go (same_body check body other (chained next bodies ++ rest)
    (chained (next_check sha256_digits check other) found ++ left) (All-head SaysEntry body bodies says)
    (All-head SaysEntry other found also) apart)
    (λ y. all_stay bodies found next rest left (is_end body) are.2 (All-tail SaysEntry body bodies says)
    (All-tail SaysEntry other found also) y ends)
  where
    next : List ℕ
    next = next_check sha256_digits check body

    apart : IsChanged (record_text sha256_digits check body ++ (chained next bodies ++ rest))
        (record_text sha256_digits check other ++ (chained (next_check sha256_digits check other) found ++ left))
    apart =
        subst (λ (t : List ℕ). IsChanged (record_text sha256_digits check body ++ (chained next bodies ++ rest)) t)
        (append_assoc (record_text sha256_digits check other)
        (chained (next_check sha256_digits check other) found) left)
        (subst (λ (t : List ℕ). IsChanged t (chained check (other ∷ found) ++ left))
        (append_assoc (record_text sha256_digits check body) (chained next bodies) rest) x)

    go : (body ≡ other) ⊎ HasTwin sha256_digits
        → (IsChanged (chained next bodies ++ rest) (chained next found ++ left) → Stay next bodies found)
        → Stay check (body ∷ bodies) (other ∷ found)
    go (inr twin) later = inr twin
    go (inl same) later = stay_more check body other rest left bodies found same apart later

pub never_lost_law : IsNeverLost
never_lost_law bodies rest now are says x whole (found, left, goes, count, end) =
    go (all_stay bodies found first_check rest left false are says goes.kinds
    (subst (λ (t : List ℕ). IsChanged (chained first_check bodies ++ rest) t) goes.is x) (ends end))
  where
    ends : (left ≡ [])
        ⊎ ((front_of sha256_digits whole.link.check whole.link.has_ended left ≡ Short) × IsCutRecord left)
        → EndsBy left
    ends (inl none) = inl none
    ends (inr (short, cut)) = inr (whole.link.check, whole.link.has_ended, short, cut)

    go : Stay first_check bodies found
        → (min (length (chained first_check bodies)) most_bytes ≤ whole.bytes) ⊎ HasTwin sha256_digits
    go (inl more) = inl (omega (arith, more, count))
    go (inr twin) = inr twin
