-- Lemmas on the entries and rows of a list, as records are put behind it.
use Rattle.std.proofs.Common.{◌≡◌, ◌∙◌, refl, sym, ap, arith, ℕ, zero, suc, ◌+◌, ◌*◌, ◌<◌, ◌≤◌}
use Rattle.std.proofs.Common.{List, [], ◌∷◌, ◌++◌, length, length-append, length-drop, append_assoc}
use Rattle.std.proofs.Common.{append-nil, Bool, true, false, ◌⊎◌, inl, inr, Option, Some, None}
use Rattle.std.proofs.Common.{Result, Ok, Err, OnOk, OnErr, is_err, ◌||◌}
use Rattle.std.specs.Io.KnownBytes.{Appends}
use Rattle.std.proofs.lemmas.Bool.{false≢true}
use Rattle.std.proofs.lemmas.List.{take-append-le}
use Rattle.std.specs.List.{flat_map}
use Rattle.std.specs.Str.{bytes_eq}
use Rattle.hex.proofs.HexLemmas.{length-encode_with}
use Rattle.hex.specs.Hex.{lower_digits}
use Rattle.sha2.proofs.Facts256.{length-sha256}
use Rattle.sha2.specs.Sha256.{sha256}
use Rattle.room_http_messages.specs.Streams.{WritesAll}
use Rattle.dispatch_room_journal.specs.declared.record_headers.TheConstants.{HEADER}
use Rattle.dispatch_room_journal.specs.declared.record_fronts.Front.{Front}
use Rattle.dispatch_room_journal.specs.declared.record_fronts.Front.TheVariants.{Empty, Short}
use Rattle.dispatch_room_journal.specs.declared.record_fronts.Front.TheVariants.{Wrong, Whole}
use Rattle.dispatch_room_journal.specs.declared.record_fronts.Link.{Link}
use Rattle.dispatch_room_journal.specs.declared.list_ends.ListEnd.TheVariants.{Plain, Chain}
use Rattle.dispatch_room_journal.specs.Chains.{IsBody, chain_text, first_check, header, is_end}
use Rattle.dispatch_room_journal.specs.Chains.{is_no_entry, is_row, last_check, next_check, opening}
use Rattle.dispatch_room_journal.specs.Chains.{record_text, shown_by, sha256_digits}
use Rattle.dispatch_room_journal.specs.RecordFronts.{after, body_in, comes_next, front_of}
use Rattle.dispatch_room_journal.specs.RecordFronts.{number_in}
use Rattle.dispatch_room_journal.specs.ChainLaws.{AreBodies}
use Rattle.dispatch_room_journal.specs.PlainTexts.{PutsKnown, StandsAt, last_ended, plain_in}
use Rattle.dispatch_room_journal.specs.PlainTexts.{plain_of, plain_says, plain_with}
use Rattle.dispatch_room_journal.specs.RowRuns.{PutsBody, PutsEntry}
use Rattle.dispatch_room_journal.proofs.AgainLemmas.{five_digits, read_after, read_body, read_front}
use Rattle.dispatch_room_journal.proofs.FrontLemmas.{front_short, front_sized, number_stays}
use Rattle.dispatch_room_journal.proofs.FrontLemmas.{sized_short}

plain_with-same : (f g : List ℕ → Bool → List ℕ → List ℕ) (text : List ℕ) (front : Front)
    → ((size : ℕ) (check : List ℕ) (has_ended : Bool)
    → f check has_ended (after size text) ≡ g check has_ended (after size text))
    → plain_with f text front ≡ plain_with g text front
plain_with-same f g text Empty same = refl
plain_with-same f g text Short same = refl
plain_with-same f g text Wrong same = refl
plain_with-same f g text (Whole size check) same =
    ap (λ rest. shown_by (body_in size text) ++ rest) (same size check (is_end (body_in size text)))

-- a number is below another or not
below_or_not : (n m : ℕ) → (n < m) ⊎ (m ≤ n)
below_or_not n zero = inr (omega arith)
below_or_not zero (suc m) = inl (omega arith)
below_or_not (suc n) (suc m) = step (below_or_not n m)
  where
    step : ((n < m) ⊎ (m ≤ n)) → (suc n < suc m) ⊎ (suc m ≤ suc n)
    step (inl below) = inl (omega (arith, below))
    step (inr above) = inr (omega (arith, above))

-- the hash of a text has 64 digits
pub digits_long : (text : List ℕ) → length (sha256_digits text) ≡ 64
unfolding sha256_digits
digits_long text = length-encode_with lower_digits (sha256 text) ∙ ap (λ n. 2 * n) (length-sha256 text)

module _ (hash : List ℕ → List ℕ) where
  -- as many steps as bytes are enough
  plain_in-enough : (n m : ℕ) (check : List ℕ) (has_ended : Bool) (text : List ℕ)
      → length text ≤ n → length text ≤ m
      → plain_in hash n check has_ended text ≡ plain_in hash m check has_ended text
  plain_in-enough zero zero check has_ended text fits enough = refl
  plain_in-enough zero (suc m) check has_ended [] fits enough = refl
  plain_in-enough zero (suc m) check has_ended (byte ∷ text) fits enough = absurd (omega (arith, fits))
  plain_in-enough (suc n) zero check has_ended [] fits enough = refl
  plain_in-enough (suc n) zero check has_ended (byte ∷ text) fits enough = absurd (omega (arith, enough))
  plain_in-enough (suc n) (suc m) check has_ended text fits enough =
      plain_with-same (λ c e t. plain_in hash n c e t) (λ c e t. plain_in hash m c e t) text
      (front_of hash check has_ended text)
      (λ size c e. plain_in-enough n m c e (after size text)
      (omega (arith, fits, length-drop (HEADER + size) text))
      (omega (arith, enough, length-drop (HEADER + size) text)))

  pub plain_none : (check : List ℕ) (has_ended : Bool) → plain_says hash check has_ended [] ≡ []
  unfolding plain_says
  plain_none check has_ended = refl

  module _ (check : List ℕ) (has_ended : Bool) where
    plain_front : (text : List ℕ) (front : Front) → front_of hash check has_ended text ≡ front
        → plain_says hash check has_ended text ≡ plain_with (plain_says hash) text front
    unfolding plain_says
    plain_front [] front is = ap (plain_with (plain_says hash) []) is
    plain_front (byte ∷ text) front is =
        plain_with-same (λ c e t. plain_in hash (length text) c e t) (plain_says hash) (byte ∷ text)
        (front_of hash check has_ended (byte ∷ text))
        (λ size c e. plain_in-enough (length text) (length (after size (byte ∷ text))) c e
        (after size (byte ∷ text)) (omega (arith, length-drop (HEADER + size) (byte ∷ text))) (omega arith))
        ∙ ap (plain_with (plain_says hash) (byte ∷ text)) is

    pub plain_short : (text : List ℕ) → front_of hash check has_ended text ≡ Short
        → plain_says hash check has_ended text ≡ []
    plain_short text is = plain_front text Short is

    pub plain_whole : (text : List ℕ) (size : ℕ) (next : List ℕ)
        → front_of hash check has_ended text ≡ Whole size next
        → plain_says hash check has_ended text
        ≡ shown_by (body_in size text) ++ plain_says hash next (is_end (body_in size text)) (after size text)
    plain_whole text size next is = plain_front text (Whole size next) is

  pub chain-push : (bodies : List (List ℕ)) (check body : List ℕ)
      → chain_text hash check (bodies ++ body ∷ [])
      ≡ chain_text hash check bodies ++ record_text hash (last_check hash check bodies) body
  chain-push [] check body = append-nil (record_text hash check body)
  chain-push (x ∷ more) check body =
      let next = next_check hash check x in
      ap (λ t. record_text hash check x ++ t) (chain-push more next body)
      ∙ sym (append_assoc (record_text hash check x) (chain_text hash next more)
      (record_text hash (last_check hash next more) body))

  pub last-push : (bodies : List (List ℕ)) (check body : List ℕ)
      → last_check hash check (bodies ++ body ∷ []) ≡ next_check hash (last_check hash check bodies) body
  last-push [] check body = refl
  last-push (x ∷ more) check body = last-push more (next_check hash check x) body

pub ended-push : (bodies : List (List ℕ)) (has_ended : Bool) (body : List ℕ)
    → last_ended has_ended (bodies ++ body ∷ []) ≡ is_end body
ended-push [] has_ended body = refl
ended-push (x ∷ more) has_ended body = ended-push more (is_end x) body

pub bodies-push : (bodies : List (List ℕ)) (has_ended : Bool) (body : List ℕ) → AreBodies has_ended bodies
    → IsBody body → comes_next (last_ended has_ended bodies) body ≡ true
    → AreBodies has_ended (bodies ++ body ∷ [])
bodies-push [] has_ended body are is_one comes = (is_one, comes, tt)
bodies-push (x ∷ more) has_ended body are is_one comes =
    (are.0, are.1, bodies-push more (is_end x) body are.2 is_one comes)

-- an entry does not say that the list ended well
no_end : (ends row : Bool) → (ends || row) ≡ false → ends ≡ false
no_end false row neither = refl
no_end true row neither = absurd (false≢true (sym neither))

pub never_end : (body : List ℕ) → is_no_entry body ≡ false → is_end body ≡ false
never_end body says = no_end (is_end body) (is_row body) says

-- what does not say that the list ended well always comes next
pub entry_comes : (has_ended : Bool) (body : List ℕ) → is_end body ≡ false → comes_next has_ended body ≡ true
entry_comes true body says = rw says refl
entry_comes false body says = refl

module _ (hash : List ℕ → List ℕ) (long : (text : List ℕ) → length (hash text) ≡ 64) where
  -- records hold what they do, and then what follows them does
  pub chain_plain : (bodies : List (List ℕ)) (check : List ℕ) (has_ended : Bool) (rest : List ℕ)
      → AreBodies has_ended bodies
      → plain_says hash check has_ended (chain_text hash check bodies ++ rest)
      ≡ flat_map shown_by bodies
      ++ plain_says hash (last_check hash check bodies) (last_ended has_ended bodies) rest
  chain_plain [] check has_ended rest are = refl
  chain_plain (body ∷ more) check has_ended rest are =
      let next = next_check hash check body in
      let tail = chain_text hash next more ++ rest in
      let back = plain_says hash (last_check hash next more) (last_ended (is_end body) more) rest in
      ap (plain_says hash check has_ended) (append_assoc (record_text hash check body) (chain_text hash next more) rest)
      ∙ plain_whole hash check has_ended (record_text hash check body ++ tail) (length body) next
      (read_front hash long check has_ended body tail are.0 are.1)
      ∙ rw (
        read_body hash long check has_ended body tail are.0 are.1,
        read_after hash long check has_ended body tail are.0 are.1,
      )
      (ap (λ t. shown_by body ++ t) (chain_plain more next (is_end body) rest are.2))
      ∙ sym (append_assoc (shown_by body) (flat_map shown_by more) back)

  module _ (check : List ℕ) (has_ended : Bool) (body : List ℕ) (is_one : IsBody body) where
    abbrev record_ : List ℕ
    record_ = record_text hash check body

    record_long : length record_ ≡ HEADER + length body
    record_long =
        omega (
          arith,
          long (check ++ body),
          length-append (next_check hash check body) (10 ∷ []),
          length-append (header (length body) (next_check hash check body)) body,
        )

    -- a record that is cut short holds nothing
    pub cut_plain : (front rest : List ℕ) → record_ ≡ front ++ rest → 0 < length rest
        → plain_says hash check has_ended front ≡ []
    cut_plain [] rest same some = plain_none hash check has_ended
    cut_plain (byte ∷ more) rest same some = by_length (below_or_not (length (byte ∷ more)) HEADER)
      where
        by_length : ((length (byte ∷ more) < HEADER) ⊎ (HEADER ≤ length (byte ∷ more)))
            → plain_says hash check has_ended (byte ∷ more) ≡ []
        by_length (inl short) =
            plain_short hash check has_ended (byte ∷ more)
            (front_short hash check has_ended (byte ∷ more) (omega arith) short)
        by_length (inr enough) =
            let size : number_in (byte ∷ more) ≡ length body =
            sym (number_stays (byte ∷ more) rest enough) ∙ ap number_in (sym same)
            ∙ five_digits (length body) (omega (arith, is_one)) in
            plain_short hash check has_ended (byte ∷ more)
            (front_sized hash check has_ended (byte ∷ more) enough
            ∙ rw size (sized_short hash check has_ended (byte ∷ more) (length body) is_one.0 is_one.1
            (omega (arith, record_long, ap length same, length-append (byte ∷ more) rest, some))))

  -- a record behind others, or some first bytes of it
  module _ (bodies : List (List ℕ)) (are : AreBodies false bodies) (body : List ℕ) (is_one : IsBody body)
      (comes : comes_next (last_ended false bodies) body ≡ true) where
    abbrev check : List ℕ
    check = last_check hash first_check bodies

    abbrev text : List ℕ
    text = opening ++ chain_text hash first_check bodies

    stood : (rest : List ℕ) → plain_of hash (text ++ rest)
        ≡ flat_map shown_by bodies ++ plain_says hash check (last_ended false bodies) rest
    unfolding plain_of
    stood rest = chain_plain bodies first_check false rest are

    now_stood : plain_of hash text ≡ flat_map shown_by bodies
    now_stood =
        ap (plain_of hash) (sym (append-nil text)) ∙ stood []
        ∙ ap (λ t. flat_map shown_by bodies ++ t) (plain_none hash check (last_ended false bodies))
        ∙ append-nil (flat_map shown_by bodies)

    one_says : plain_says hash check (last_ended false bodies) (record_text hash check body) ≡ shown_by body
    one_says =
        ap (plain_says hash check (last_ended false bodies))
        (sym (append-nil (record_text hash check body ++ []) ∙ append-nil (record_text hash check body)))
        ∙ chain_plain (body ∷ []) check (last_ended false bodies) [] (is_one, comes, tt)
        ∙ ap (λ t. (shown_by body ++ []) ++ t) (plain_none hash (next_check hash check body) (is_end body))
        ∙ append-nil (shown_by body ++ []) ∙ append-nil (shown_by body)

    pub put_whole : plain_of hash (text ++ record_text hash check body) ≡ plain_of hash text ++ shown_by body
    put_whole =
        stood (record_text hash check body) ∙ ap (λ t. flat_map shown_by bodies ++ t) one_says
        ∙ ap (λ t. t ++ shown_by body) (sym now_stood)

    pub put_cut : (front rest : List ℕ) → record_text hash check body ≡ front ++ rest
        → (part : List ℕ) × (more : List ℕ) × (shown_by body ≡ part ++ more)
        × (plain_of hash (text ++ front) ≡ plain_of hash text ++ part)
    put_cut front [] same = (
      shown_by body,
      [],
      sym (append-nil (shown_by body)),
      ap (λ t. plain_of hash (text ++ t)) (sym (same ∙ append-nil front)) ∙ put_whole,
    )
    put_cut front (byte ∷ rest) same = (
      [],
      shown_by body,
      refl,
      stood front
          ∙ ap (λ t. flat_map shown_by bodies ++ t)
          (cut_plain check (last_ended false bodies) body is_one front (byte ∷ rest) same (omega arith))
          ∙ ap (λ t. t ++ []) (sym now_stood),
    )

    pub put_stands : (bodies_ : List (List ℕ)) × AreBodies false bodies_
        × (text ++ record_text hash check body ≡ opening ++ chain_text hash first_check bodies_)
        × (next_check hash check body ≡ last_check hash first_check bodies_)
        × (is_end body ≡ last_ended false bodies_)
    put_stands = (
      bodies ++ body ∷ [],
      bodies-push bodies false body are is_one comes,
      append_assoc opening (chain_text hash first_check bodies) (record_text hash check body)
          ∙ ap (λ t. opening ++ t) (sym (chain-push hash bodies first_check body)),
      sym (last-push hash bodies first_check body),
      sym (ended-push bodies false body),
    )

-- a record that was put behind a list, wholly or not
module _ (link : Link) (text body : List ℕ) (stands : StandsAt (Chain link) text) (is_one : IsBody body)
    (comes : comes_next link.has_ended body ≡ true) where
  abbrev next : Link
  next = record { check = next_check sha256_digits link.check body; has_ended = is_end body }

  comes_ : comes_next (last_ended false stands.0) body ≡ true
  comes_ = (rw stands.4 at comes)

  record_is : record_text sha256_digits link.check body
      ≡ record_text sha256_digits (last_check sha256_digits first_check stands.0) body
  record_is = ap (λ k. record_text sha256_digits k body) stands.3

  more_is : (t : List ℕ) → text ++ t ≡ (opening ++ chain_text sha256_digits first_check stands.0) ++ t
  more_is t = ap (λ front. front ++ t) stands.2

  pub puts_all : (more : List ℕ) → more ≡ text ++ record_text sha256_digits link.check body
      → (plain_of sha256_digits more ≡ plain_of sha256_digits text ++ shown_by body)
      × StandsAt (Chain next) more
  puts_all more is =
      let put = put_stands sha256_digits digits_long stands.0 stands.1 body is_one comes_ in
      let now = is ∙ ap (λ t. text ++ t) record_is
      ∙ more_is (record_text sha256_digits (last_check sha256_digits first_check stands.0) body) in (
        ap (plain_of sha256_digits) now
            ∙ put_whole sha256_digits digits_long stands.0 stands.1 body is_one comes_
            ∙ ap (λ t. plain_of sha256_digits t ++ shown_by body) (sym stands.2),
        (
          put.0,
          put.1,
          now ∙ put.2,
          ap (λ k. next_check sha256_digits k body) stands.3 ∙ put.3,
          put.4,
        ),
      )

  pub puts_some : (front rest more : List ℕ) → record_text sha256_digits link.check body ≡ front ++ rest
      → more ≡ text ++ front
      → (part : List ℕ) × (left : List ℕ) × (shown_by body ≡ part ++ left)
      × (plain_of sha256_digits more ≡ plain_of sha256_digits text ++ part)
  puts_some front rest more same is =
      let cut = put_cut sha256_digits digits_long stands.0 stands.1 body is_one comes_ front rest
      (sym record_is ∙ same) in (
        cut.0,
        cut.1,
        cut.2,
        ap (plain_of sha256_digits) (is ∙ more_is front) ∙ cut.3
            ∙ ap (λ t. plain_of sha256_digits t ++ cut.0) (sym stands.2),
      )

-- what a record holds that is an entry
pub shown_entry : (body : List ℕ) → is_no_entry body ≡ false → shown_by body ≡ body
shown_entry body says = rw (never_end body says) refl

-- what follows a list that is no chain
pub plain_more : (text more : List ℕ) → StandsAt Plain text
    → (plain_of sha256_digits (text ++ more) ≡ plain_of sha256_digits text ++ more)
    × StandsAt Plain (text ++ more)
unfolding plain_of
plain_more text more stands =
    let front = take-append-le 7 text more stands.0 in (
      rw (front, stands.1) refl,
      (omega (arith, stands.0, length-append text more), ap (λ t. bytes_eq t opening) front ∙ stands.1),
    )

-- what was written behind a list
module _ {E : Type 0} where
  pub known_put : (link : Link) (body : List ℕ) → IsBody body → comes_next link.has_ended body ≡ true
      → (a b : Option (List ℕ)) (r : Result (Unit {0}) E)
      → OnOk r (Appends a b (record_text sha256_digits link.check body))
      → OnErr r ((front : List ℕ) × (rest : List ℕ)
      × (record_text sha256_digits link.check body ≡ front ++ rest) × Appends a b front)
      → PutsKnown (Chain link)
      (Chain (record { check = next_check sha256_digits link.check body; has_ended = is_end body })) a b
      (shown_by body) r
  known_put link body is_one comes None b r all part = tt
  known_put link body is_one comes (Some t) None (Ok u) all part = all
  known_put link body is_one comes (Some t) None (Err e) all part = part.3
  known_put link body is_one comes (Some t) (Some now) (Ok u) all part = λ stands.
      record { all = puts_all link t body stands is_one comes now all; part = tt }
  known_put link body is_one comes (Some t) (Some now) (Err e) all part = λ stands.
      record { all = tt; part = puts_some link t body stands is_one comes part.0 part.1 now part.2 part.3 }

  pub known_plain : (entry : List ℕ) (a b : Option (List ℕ)) (r : Result (Unit {0}) E)
      → OnOk r (Appends a b entry)
      → OnErr r ((front : List ℕ) × (rest : List ℕ) × (entry ≡ front ++ rest) × Appends a b front)
      → PutsKnown Plain Plain a b entry r
  known_plain entry None b r all part = tt
  known_plain entry (Some t) None (Ok u) all part = all
  known_plain entry (Some t) None (Err e) all part = part.3
  known_plain entry (Some t) (Some now) (Ok u) all part = λ stands.
      record { all = rw all (plain_more t entry stands); part = tt }
  known_plain entry (Some t) (Some now) (Err e) all part = λ stands.
      record { all = tt; part = (part.0, part.1, part.2, rw part.3 (plain_more t part.0 stands).0) }

module _ {W E : Type 0} (held : W → Option (List ℕ)) (failed : W → Bool) where
  pub record_put : (link : Link) (body : List ℕ) → IsBody body → comes_next link.has_ended body ≡ true
      → (a b : W) (r : Result (Unit {0}) E)
      → WritesAll held failed a b (record_text sha256_digits link.check body) r
      → PutsKnown (Chain link)
      (Chain (record { check = next_check sha256_digits link.check body; has_ended = is_end body }))
      (held a) (held b) (shown_by body) r
  record_put link body is_one comes a b (Ok u) wrote =
      known_put link body is_one comes (held a) (held b) (Ok u) wrote.all.0 tt
  record_put link body is_one comes a b (Err e) wrote =
      known_put link body is_one comes (held a) (held b) (Err e) tt
      (wrote.part.0, wrote.part.1, wrote.part.2, wrote.part.3)

  pub plain_put : (entry : List ℕ) (a b : W) (r : Result (Unit {0}) E)
      → WritesAll held failed a b entry r → PutsKnown Plain Plain (held a) (held b) entry r
  plain_put entry a b (Ok u) wrote = known_plain entry (held a) (held b) (Ok u) wrote.all.0 tt
  plain_put entry a b (Err e) wrote =
      known_plain entry (held a) (held b) (Err e) tt (wrote.part.0, wrote.part.1, wrote.part.2, wrote.part.3)

  pub failed_put : (text : List ℕ) (a b : W) (r : Result (Unit {0}) E)
      → WritesAll held failed a b text r → failed b ≡ is_err r
  failed_put _ a b (Ok u) wrote = wrote.all.1
  failed_put _ a b (Err e) wrote = wrote.part.4

  -- and where it was written, that entry stands there now, or that record
  pub entry_put : (entry : List ℕ) (a b : W) (r : Result (Unit {0}) E)
      → WritesAll held failed a b entry r → OnOk r (PutsEntry Plain Plain (held a) (held b) entry)
  entry_put entry a b (Ok u) wrote = (refl, wrote.all.0)
  entry_put entry a b (Err e) wrote = tt

  pub body_put : (link : Link) (body : List ℕ) (a b : W) (r : Result (Unit {0}) E)
      → WritesAll held failed a b (record_text sha256_digits link.check body) r
      → OnOk r (PutsBody (Chain link)
      (Chain (record { check = next_check sha256_digits link.check body; has_ended = is_end body }))
      (held a) (held b) body)
  body_put link body a b (Ok u) wrote = (wrote.all.0, refl)
  body_put link body a b (Err e) wrote = tt
