-- Lemmas on the whole records of a chain that is read.
use Rattle.std.proofs.Common.{◌≡◌, ◌∙◌, refl, sym, ap, subst, arith, ℕ, ◌+◌, ◌*◌, ◌≤◌, List, []}
use Rattle.std.proofs.Common.{◌∷◌, ◌++◌, length, length-append, length-drop, length-take-le, drop}
use Rattle.std.proofs.Common.{min, append_assoc, append-nil, Bool, true, false, Option, Some, None}
use Rattle.std.proofs.Common.{◌⊎◌, inl, inr, Result, Ok, Err}
use Rattle.std.specs.Prelude.{MatchResult}
use Rattle.std.specs.Io.KnownBytes.{prepend_known, Consumes, IsAtEnd, Keeps}
use Rattle.dispatch_room_journal.specs.WholeEntries.{most_bytes}
use Rattle.dispatch_room_journal.specs.declared.record_headers.TheConstants.{HEADER}
use Rattle.dispatch_room_journal.specs.declared.record_fronts.Front.TheVariants.{Short, Whole}
use Rattle.dispatch_room_journal.specs.declared.record_fronts.Front.TheVariants.{Wrong}
use Rattle.dispatch_room_journal.specs.declared.entry_reader.EntryFault.{EntryFault}
use Rattle.dispatch_room_journal.specs.declared.entry_reader.EntryFault.TheVariants.{Foreign}
use Rattle.dispatch_room_journal.specs.declared.record_fronts.Link.{Link}
use Rattle.dispatch_room_journal.specs.declared.whole_records.WholeChain.{WholeChain}
use Rattle.dispatch_room_journal.specs.Chains.{chain_text, first_check, header, is_end, last_check}
use Rattle.dispatch_room_journal.specs.Chains.{next_check, record_text, sha256_digits}
use Rattle.dispatch_room_journal.specs.RecordFronts.{Stays, after, body_in, front_of}
use Rattle.dispatch_room_journal.specs.RecordRuns.{first_link}
use Rattle.dispatch_room_journal.specs.CutRecords.{IsCutRecord, SaysEntry}
use Rattle.dispatch_room_journal.specs.WholeRecords.{EndsChain, FailsChain, GivesMore, GoesOnTo}
use Rattle.dispatch_room_journal.proofs.FrontLemmas.{body_stays}
use Rattle.dispatch_room_journal.proofs.PlainLemmas.{chain-push, digits_long}
use Rattle.dispatch_room_journal.proofs.RunLemmas.{none_run, run_more}
use Rattle.dispatch_room_journal.proofs.SoundLemmas.{next_whole}

pub record_length : (check body : List ℕ)
    → length (record_text sha256_digits check body) ≡ HEADER + length body
record_length check body =
    omega (
      arith,
      digits_long (check ++ body),
      length-append (next_check sha256_digits check body) (10 ∷ []),
      length-append (header (length body) (next_check sha256_digits check body)) body,
    )

abbrev pub chained : List (List ℕ) → List ℕ
chained bodies = chain_text sha256_digits first_check bodies

-- these records were taken from the front of what was read first, and what is left follows them
pub record ChainTaken (first left : Option (List ℕ)) (whole : WholeChain) (kept looks : ℕ)
    (bodies : List (List ℕ)) : Type 0 where
  pub follows : (text : List ℕ) → first ≡ Some text
      → (rest : List ℕ) × (left ≡ Some rest) × GoesOnTo text bodies rest whole.link
  pub count : whole.bytes ≡ min (length (chained bodies)) most_bytes
  pub few : looks ≤ length bodies + (length (chained bodies) + kept)

-- what a read gave goes from the reader to the inbox
pub filled : (before more : List ℕ) (left now : Option (List ℕ)) → Consumes left now more
    → Keeps (prepend_known before left) (prepend_known (before ++ more) now)
filled before more None now gave = tt
filled before more (Some xs) None gave = absurd gave
filled before more (Some xs) (Some ys) gave = append_assoc before more ys ∙ ap (λ t. before ++ t) (sym gave)

pub chain_kept : (first left now : Option (List ℕ)) (whole : WholeChain) (kept looks kept_now looks_now : ℕ)
    (bodies : List (List ℕ)) → ChainTaken first left whole kept looks bodies → Keeps left now
    → looks_now ≤ looks + 1 → kept + 1 ≤ kept_now
    → ChainTaken first now whole kept_now looks_now bodies
chain_kept first None now whole kept looks kept_now looks_now bodies x keeps one grew = record {
  follows = λ text known. absurd (let follows = x.follows text known in cc);
  count = x.count;
  few = omega (arith, x.few, one, grew);
}
chain_kept first (Some left) None whole kept looks kept_now looks_now bodies x keeps one grew = absurd keeps
chain_kept first (Some left) (Some now) whole kept looks kept_now looks_now bodies x keeps one grew = record {
  follows = λ text known. let follows = x.follows text known in (
    now,
    refl,
    subst (λ (t : List ℕ). GoesOnTo text bodies t whole.link)
        (let same : Some left ≡ Some follows.0 = follows.1 in sym (keeps ∙ cc)) follows.2,
  );
  count = x.count;
  few = omega (arith, x.few, one, grew);
}

module _ (whole : WholeChain) (kept : List ℕ) (size : ℕ) (check : List ℕ)
    (stays : Stays (front_of sha256_digits whole.link.check whole.link.has_ended) whole.link.has_ended kept
    (Whole size check))
    (bodies : List (List ℕ)) where
  abbrev body : List ℕ
  body = body_in size kept

  abbrev next_link : Link
  next_link = record { check = check; has_ended = is_end body }

  body_long : length body ≡ size
  body_long = length-take-le size (drop HEADER kept) (omega (arith, stays.0, length-drop HEADER kept))

  pub chain_more : (first left : Option (List ℕ)) (bytes looks looks_now : ℕ)
      → ChainTaken first (prepend_known kept left) whole (length kept) looks bodies
      → SaysEntry body → bytes ≡ min (whole.bytes + (HEADER + size)) most_bytes → looks_now ≤ looks + 1
      → ChainTaken first (prepend_known (drop (HEADER + size) kept) left) (record { bytes = bytes; link = next_link })
      (length (drop (HEADER + size) kept)) looks_now (bodies ++ body ∷ [])
  chain_more first left bytes looks looks_now x says count one = record {
    follows = follows left x.follows;
    count = omega (arith, count, x.count, body_long, chain_long);
    few =
        omega (
          arith,
          x.few,
          one,
          body_long,
          chain_long,
          length-append bodies (body ∷ []),
          length-drop (HEADER + size) kept,
          stays.0,
        );
  }
    where
      chain_long : length (chained (bodies ++ body ∷ [])) ≡ length (chained bodies) + (HEADER + length body)
      chain_long =
          ap length (chain-push sha256_digits bodies first_check body)
          ∙ length-append (chained bodies)
          (record_text sha256_digits (last_check sha256_digits first_check bodies) body)
          ∙ ap (λ n. length (chained bodies) + n) (record_length (last_check sha256_digits first_check bodies) body)

      follows : (left : Option (List ℕ))
          → ((text : List ℕ) → first ≡ Some text
          → (rest : List ℕ) × (prepend_known kept left ≡ Some rest) × GoesOnTo text bodies rest whole.link)
          → (text : List ℕ) → first ≡ Some text
          → (rest : List ℕ) × (prepend_known (drop (HEADER + size) kept) left ≡ Some rest)
          × GoesOnTo text (bodies ++ body ∷ []) rest next_link
      follows None before text known = absurd (let b = before text known in cc)
      follows (Some more) before text known =
          let b = before text known in
          let same : kept ++ more ≡ b.0 = cc in (
            drop (HEADER + size) kept ++ more,
            refl,
            run_more SaysEntry first_link whole.link kept size check stays bodies text more
                (subst (λ (t : List ℕ). GoesOnTo text bodies t whole.link) (sym same) b.2) says,
          )

pub none_taken : (first : Option (List ℕ)) (kept : ℕ)
    → ChainTaken first first (record { bytes = 0; link = record { check = first_check; has_ended = false } }) kept 0 []
none_taken first kept = record {
  follows = λ text known. (
    text,
    known,
    none_run SaysEntry first_link text,
  );
  count = refl;
  few = omega arith;
}

-- every record has bytes
few_bodies : (check : List ℕ) (bodies : List (List ℕ))
    → length bodies ≤ length (chain_text sha256_digits check bodies)
few_bodies check [] = omega arith
few_bodies check (body ∷ more) =
    omega (
      arith,
      few_bodies (next_check sha256_digits check body) more,
      record_length check body,
      length-append (record_text sha256_digits check body)
          (chain_text sha256_digits (next_check sha256_digits check body) more),
    )

-- where all looks are spent, the text has half as many bytes
pub all_spent : (first left : Option (List ℕ)) (whole : WholeChain) (kept : List ℕ) (looks : ℕ)
    (bodies : List (List ℕ)) → most_bytes ≤ looks
    → ChainTaken first (prepend_known kept left) whole (length kept) looks bodies
    → (text : List ℕ) → first ≡ Some text → most_bytes ≤ 2 * length text
all_spent first None whole kept looks bodies spent x text known = absurd (let follows = x.follows text known in cc)
all_spent first (Some more) whole kept looks bodies spent x text known =
    let follows = x.follows text known in
    let rest_is : kept ++ more ≡ follows.0 = let is : Some (kept ++ more) ≡ Some follows.0 = follows.1 in cc in
    omega (
      arith,
      spent,
      x.few,
      few_bodies first_check bodies,
      ap length follows.2.is,
      length-append (chained bodies) follows.0,
      ap length rest_is,
      length-append kept more,
    )

kept_before : (before : List ℕ) (left now : Option (List ℕ)) → Keeps left now
    → Keeps (prepend_known before left) (prepend_known before now)
kept_before before None now keeps = tt
kept_before before (Some xs) None keeps = absurd keeps
kept_before before (Some xs) (Some ys) keeps = ap (λ t. before ++ t) keeps

-- what is read goes from the reader to the inbox
pub given_on : (before after : List ℕ) (left now : Option (List ℕ)) (some : Bool)
    → GivesMore before after left now some → Keeps (prepend_known before left) (prepend_known after now)
given_on before after left now true (more, count, is, gives) = rw is (filled before more left now gives)
given_on before after left now false (is, keeps, ends) = rw is (kept_before before left now keeps)

-- of what is left where nothing more is read, all is kept
pub rest_kept : (kept rest : List ℕ) (left : Option (List ℕ)) → IsAtEnd left
    → prepend_known kept left ≡ Some rest → rest ≡ kept
rest_kept kept rest None ends is = absurd (cc)
rest_kept kept rest (Some more) ends is =
    let same : kept ++ more ≡ rest = cc in
    sym same ∙ ap (λ t. kept ++ t) ends ∙ append-nil kept

-- what is left begins with what is kept
pub begins_kept : (kept rest : List ℕ) (left : Option (List ℕ)) → prepend_known kept left ≡ Some rest
    → (more : List ℕ) × (rest ≡ kept ++ more)
begins_kept kept rest None is = absurd (cc)
begins_kept kept rest (Some more) is = let same : kept ++ more ≡ rest = cc in (more, sym same)

end_before : (left now : Option (List ℕ)) → Keeps left now → IsAtEnd now → IsAtEnd left
end_before None now keeps ends = tt
end_before (Some xs) None keeps ends = absurd keeps
end_before (Some xs) (Some ys) keeps ends = sym keeps ∙ ends

module _ (first left : Option (List ℕ)) (whole : WholeChain) (kept : List ℕ) (looks : ℕ)
    (bodies : List (List ℕ))
    (x : ChainTaken first (prepend_known kept left) whole (length kept) looks bodies)
    (text : List ℕ) (known : first ≡ Some text) where
  -- nothing more is read
  all_kept : (now : Option (List ℕ)) → Keeps left now → IsAtEnd now → GoesOnTo text bodies kept whole.link
  all_kept now keeps ends =
      let follows = x.follows text known in
      let same = rest_kept kept follows.0 left (end_before left now keeps ends) follows.1 in
      subst (λ (t : List ℕ). GoesOnTo text bodies t whole.link) same follows.2

  -- and what is kept is nothing, or the beginning of one record
  pub chain_ends : (now : Option (List ℕ)) → Keeps left now → IsAtEnd now
      → (kept ≡ []) ⊎ ((front_of sha256_digits whole.link.check whole.link.has_ended kept ≡ Short)
      × IsCutRecord kept)
      → EndsChain text whole
  chain_ends now keeps ends end = (bodies, kept, all_kept now keeps ends, x.count, end)

  -- and what is kept is too short for a record: it is the beginning of one, or the chain is no
  -- journal
  pub chain_cut : (now : Option (List ℕ)) → Keeps left now → IsAtEnd now
      → front_of sha256_digits whole.link.check whole.link.has_ended kept ≡ Short
      → (read_failed : Bool) (result : Result WholeChain EntryFault)
      → MatchResult result (λ found. (found ≡ whole) × IsCutRecord kept)
      (λ fault. (fault ≡ Foreign) × ¬ (IsCutRecord kept))
      → MatchResult result (EndsChain text) (FailsChain read_failed text)
  chain_cut now keeps ends short read_failed (Ok found) (same, cut) =
      subst (EndsChain text) (sym same) (chain_ends now keeps ends (inr (short, cut)))
  chain_cut now keeps ends short read_failed (Err fault) (same, none) =
      subst (FailsChain read_failed text) (sym same)
      (bodies, kept, whole.link, all_kept now keeps ends, inr (inr (short, none)))

  -- what follows is not the record that comes next
  pub wrong_next : (read_failed : Bool)
      → Stays (front_of sha256_digits whole.link.check whole.link.has_ended) whole.link.has_ended kept Wrong
      → FailsChain read_failed text Foreign
  wrong_next read_failed stays =
      let follows = x.follows text known in
      let more = begins_kept kept follows.0 left follows.1 in (
        bodies,
        follows.0,
        whole.link,
        follows.2,
        inl (ap (front_of sha256_digits whole.link.check whole.link.has_ended) more.1 ∙ stays more.0),
      )

  -- the record that follows is no entry
  pub no_entry : (read_failed : Bool) (size : ℕ) (check : List ℕ)
      → Stays (front_of sha256_digits whole.link.check whole.link.has_ended) whole.link.has_ended kept
      (Whole size check)
      → (SaysEntry (body_in size kept) → ⊥) → FailsChain read_failed text Foreign
  no_entry read_failed size check stays none =
      let follows = x.follows text known in
      let more = begins_kept kept follows.0 left follows.1 in
      let next = next_whole sha256_digits whole.link.check whole.link.has_ended (kept ++ more.0) size check
      (stays.3 more.0) in
      let same : body_in size (kept ++ more.0) ≡ body_in size kept = body_stays size kept more.0 stays.0 in
      let rest = after size (kept ++ more.0) in
      let line = record_text sha256_digits whole.link.check (body_in size kept) in
      let split : kept ++ more.0 ≡ line ++ rest =
      next.text_is ∙ ap (λ b. record_text sha256_digits whole.link.check b ++ rest) same in (
        bodies,
        follows.0,
        whole.link,
        follows.2,
        inr (inl (body_in size kept, rest, more.1 ∙ split ∙ ap (λ t. t ++ rest) (sym (append-nil line)), none)),
      )
