-- Lemmas on rows that are taken from a list, and on what stands behind them.
use Rattle.std.proofs.Common.{◌≡◌, ◌≢◌, ◌∙◌, refl, sym, ap, subst, arith, ℕ, ◌+◌, ◌<◌, ◌≤◌, List}
use Rattle.std.proofs.Common.{[], ◌∷◌, ◌++◌, length, drop, append_assoc, append-nil, true, false}
use Rattle.std.proofs.Common.{Option, Some, None}
use Rattle.std.proofs.lemmas.Bool.{false≢true}
use Rattle.std.specs.List.{flat_map}
use Rattle.std.specs.Io.KnownBytes.{prepend_known, IsAtEnd, Keeps}
use Rattle.dispatch_room_journal.specs.declared.record_headers.TheConstants.{HEADER}
use Rattle.dispatch_room_journal.specs.declared.record_fronts.Front.{Front}
use Rattle.dispatch_room_journal.specs.declared.record_fronts.Front.TheVariants.{Short, Whole}
use Rattle.dispatch_room_journal.specs.declared.record_fronts.Front.TheVariants.{Wrong}
use Rattle.dispatch_room_journal.specs.declared.record_fronts.Link.{Link}
use Rattle.dispatch_room_journal.specs.declared.row_runs.Behind.{Behind}
use Rattle.dispatch_room_journal.specs.declared.row_runs.Behind.TheVariants.{End, Other, Room}
use Rattle.dispatch_room_journal.specs.declared.row_runs.Behind.TheVariants.{Unread}
use Rattle.dispatch_room_journal.specs.Entries.{room, text_of}
use Rattle.dispatch_room_journal.specs.Chains.{is_end, is_row, next_check, row_line, sha256_digits}
use Rattle.dispatch_room_journal.specs.RecordFronts.{Stays, after, body_in, front_of}
use Rattle.dispatch_room_journal.specs.RecordRuns.{Runs}
use Rattle.dispatch_room_journal.specs.RowRuns.{BehindIs, GoesOnWith, HeadIs, IsRow, TakesKnown}
use Rattle.dispatch_room_journal.proofs.AgainLemmas.{read_body, read_front}
use Rattle.dispatch_room_journal.proofs.EntryRecordLemmas.{nothing_left}
use Rattle.dispatch_room_journal.proofs.FrontLemmas.{body_stays}
use Rattle.dispatch_room_journal.proofs.PlainLemmas.{digits_long}
use Rattle.dispatch_room_journal.proofs.RunLemmas.{none_run, run_more}
use Rattle.dispatch_room_journal.proofs.SoundLemmas.{next_whole}
use Rattle.dispatch_room_journal.proofs.WholeLemmas.{begins_kept, rest_kept}

lines-push : (bodies : List (List ℕ)) (body : List ℕ)
    → flat_map row_line (bodies ++ body ∷ []) ≡ flat_map row_line bodies ++ row_line body
lines-push [] body = append-nil (row_line body)
lines-push (x ∷ bodies) body =
    ap (λ t. row_line x ++ t) (lines-push bodies body)
    ∙ sym (append_assoc (row_line x) (flat_map row_line bodies) (row_line body))

-- these rows were taken, and what is left of the text follows them
pub record RowsTaken (first left : Option (List ℕ)) (link now : Link) (old lines : List ℕ)
    (bodies : List (List ℕ)) : Type 0 where
  pub follows : (text : List ℕ) → first ≡ Some text
      → (rest : List ℕ) × (left ≡ Some rest) × Runs IsRow link text bodies rest now
  pub lines_are : lines ≡ old ++ flat_map row_line bodies

pub no_rows : (first : Option (List ℕ)) (link : Link) (old : List ℕ) → RowsTaken first first link link old old []
no_rows first link old = record {
  follows = λ text known. (text, known, none_run IsRow link text);
  lines_are = sym (append-nil old);
}

-- what is left goes from the reader to the inbox
pub rows_kept : (first left now : Option (List ℕ)) (link next : Link) (old lines : List ℕ)
    (bodies : List (List ℕ)) → RowsTaken first left link next old lines bodies → Keeps left now
    → RowsTaken first now link next old lines bodies
rows_kept first None now link next old lines bodies x keeps = record {
  follows = λ text known. absurd (let follows = x.follows text known in cc);
  lines_are = x.lines_are;
}
rows_kept first (Some left) None link next old lines bodies x keeps = absurd keeps
rows_kept first (Some left) (Some now) link next old lines bodies x keeps = record {
  follows = λ text known. let follows = x.follows text known in (follows.0, (cc), follows.2);
  lines_are = x.lines_are;
}

-- one row more is taken from the front of the inbox
module _ (first : Option (List ℕ)) (link now : Link) (old lines kept : List ℕ) (bodies : List (List ℕ))
    (size : ℕ) (check : List ℕ)
    (stays : Stays (front_of sha256_digits now.check now.has_ended) now.has_ended kept (Whole size check))
    (is_one : IsRow (body_in size kept)) where
  follows_more : (left : Option (List ℕ))
      → ((text : List ℕ) → first ≡ Some text
      → (rest : List ℕ) × (prepend_known kept left ≡ Some rest) × Runs IsRow link text bodies rest now)
      → (text : List ℕ) → first ≡ Some text
      → (rest : List ℕ) × (prepend_known (drop (HEADER + size) kept) left ≡ Some rest)
      × Runs IsRow link text (bodies ++ body_in size kept ∷ []) rest
      (record { check = check; has_ended = is_end (body_in size kept) })
  follows_more None before text known = absurd (let b = before text known in cc)
  follows_more (Some more) before text known =
      let b = before text known in
      let same : kept ++ more ≡ b.0 = cc in (
        drop (HEADER + size) kept ++ more,
        refl,
        run_more IsRow link now kept size check stays bodies text more
            (subst (λ (t : List ℕ). Runs IsRow link text bodies t now) (sym same) b.2) is_one,
      )

  pub rows_more : (left : Option (List ℕ)) → RowsTaken first (prepend_known kept left) link now old lines bodies
      → RowsTaken first (prepend_known (drop (HEADER + size) kept) left) link
      (record { check = check; has_ended = is_end (body_in size kept) }) old
      (lines ++ row_line (body_in size kept)) (bodies ++ body_in size kept ∷ [])
  rows_more left x = record {
    follows = follows_more left x.follows;
    lines_are =
        ap (λ t. t ++ row_line (body_in size kept)) x.lines_are
        ∙ append_assoc old (flat_map row_line bodies) (row_line (body_in size kept))
        ∙ ap (λ t. old ++ t) (sym (lines-push bodies (body_in size kept)));
  }

-- all the rows were taken that stand there
pub rows_end : (first left : Option (List ℕ)) (link now : Link) (old lines : List ℕ)
    (bodies : List (List ℕ)) (behind : Behind) → RowsTaken first left link now old lines bodies
    → ((rest : List ℕ) → left ≡ Some rest → BehindIs now rest behind)
    → TakesKnown link now first left old lines behind
rows_end first left link now old lines bodies behind x is = λ text known.
    let follows = x.follows text known in (
      flat_map row_line bodies,
      follows.0,
      record { bodies = bodies; rows = follows.2; have = refl; stands = is follows.0 follows.1 },
      x.lines_are,
      follows.1,
    )

module _ (link : Link) where
  abbrev look : List ℕ → Front
  look text = front_of sha256_digits link.check link.has_ended text

  -- the record with which a text goes on is at its front
  goes_front : (body text : List ℕ) → GoesOnWith link body text
      → look text ≡ Whole (length body) (next_check sha256_digits link.check body)
  goes_front body text (is_one, comes, (rest, is)) =
      ap look is ∙ read_front sha256_digits digits_long link.check link.has_ended body rest is_one comes

  goes_body : (body text : List ℕ) → GoesOnWith link body text → body_in (length body) text ≡ body
  goes_body body text (is_one, comes, (rest, is)) =
      ap (body_in (length body)) is
      ∙ read_body sha256_digits digits_long link.check link.has_ended body rest is_one comes

  never_goes : (body text : List ℕ) (front : Front)
      → ((size : ℕ) (check : List ℕ) → front ≢ Whole size check) → look text ≡ front
      → ¬ (GoesOnWith link body text)
  never_goes body text front other is goes =
      other (length body) (next_check sha256_digits link.check body) (sym is ∙ goes_front body text goes)

  -- what is there is no record that comes next
  none_behind : (text : List ℕ) (front : Front)
      → ((size : ℕ) (check : List ℕ) → front ≢ Whole size check) → look text ≡ front → text ≢ []
      → BehindIs link text Other
  none_behind text front other is some = (
    some,
    λ head is_head. never_goes (text_of (room head)) text front other is,
    λ body is_row. never_goes body text front other is,
  )

  -- nothing is kept, and nothing more is read
  pub behind_end : (before kept : List ℕ) (left : Option (List ℕ)) → kept ≡ before → length before < 1
      → IsAtEnd left → (rest : List ℕ) → prepend_known kept left ≡ Some rest → BehindIs link rest End
  behind_end before kept left same none ends rest is =
      rest_kept kept rest left ends is ∙ same ∙ nothing_left before (omega (arith, none))

  -- what is kept is cut short, and nothing more is read
  pub behind_short : (before kept : List ℕ) (left : Option (List ℕ)) → kept ≡ before → 1 ≤ length before
      → look before ≡ Short → IsAtEnd left → (rest : List ℕ) → prepend_known kept left ≡ Some rest
      → BehindIs link rest Other
  behind_short before kept left same some short ends rest is =
      let all : rest ≡ before = rest_kept kept rest left ends is ∙ same in
      none_behind rest Short (λ size check other. cc) (ap look all ∙ short)
      (λ none. omega (arith, some, ap length (sym all ∙ none)))

  -- what is there is no record that comes next, whatever follows
  pub behind_wrong : (kept : List ℕ) (left : Option (List ℕ))
      → ((more : List ℕ) → look (kept ++ more) ≡ Wrong)
      → (rest : List ℕ) → prepend_known kept left ≡ Some rest → BehindIs link rest Other
  behind_wrong kept left wrong rest is =
      let more = begins_kept kept rest left is in
      let here : look rest ≡ Wrong = ap look more.1 ∙ wrong more.0 in
      none_behind rest Wrong (λ size check same. cc) here
      (λ none. let empty : look [] ≡ Wrong = sym (ap look none) ∙ here in cc)

  module _ (kept : List ℕ) (size : ℕ) (check : List ℕ)
      (stays : Stays (front_of sha256_digits link.check link.has_ended) link.has_ended kept (Whole size check))
      (none : is_row (body_in size kept) ≡ false) where
    -- the record at the front is the only one with which the text goes on
    only : (more body : List ℕ) → GoesOnWith link body (kept ++ more) → body_in size kept ≡ body
    only more body goes =
        let same : Whole size check ≡ Whole (length body) (next_check sha256_digits link.check body) =
        sym (stays.3 more) ∙ goes_front body (kept ++ more) goes in
        let sizes : size ≡ length body = cc in
        sym (body_stays size kept more stays.0) ∙ ap (λ n. body_in n (kept ++ more)) sizes
        ∙ goes_body body (kept ++ more) goes

    goes_whole : (more : List ℕ) → GoesOnWith link (body_in size kept) (kept ++ more)
    goes_whole more =
        let next = next_whole sha256_digits link.check link.has_ended (kept ++ more) size check (stays.3 more) in
        subst (λ (b : List ℕ). GoesOnWith link b (kept ++ more)) (body_stays size kept more stays.0)
        (next.is_one, next.comes, (after size (kept ++ more), next.text_is))

    by_head : (more : List ℕ) (behind : Behind) → HeadIs (body_in size kept) behind
        → BehindIs link (kept ++ more) behind
    by_head more Unread is = absurd is
    by_head more End is = absurd is
    by_head more (Room head) is =
        (is.0, subst (λ (b : List ℕ). GoesOnWith link b (kept ++ more)) is.1 (goes_whole more))
    by_head more Other is = (
      λ empty. let whole : front_of sha256_digits link.check link.has_ended [] ≡ Whole size check =
          sym (ap look empty) ∙ stays.3 more in cc,
      λ head is_head goes. is head is_head (only more (text_of (room head)) goes),
      λ body row goes. false≢true (sym none ∙ ap is_row (only more body goes) ∙ row),
    )

    -- a record is there that is no row
    pub behind_whole : (left : Option (List ℕ)) (behind : Behind) → HeadIs (body_in size kept) behind
        → (rest : List ℕ) → prepend_known kept left ≡ Some rest → BehindIs link rest behind
    behind_whole left behind head rest is =
        let more = begins_kept kept rest left is in
        subst (λ (t : List ℕ). BehindIs link t behind) (sym more.1) (by_head more.0 behind head)
