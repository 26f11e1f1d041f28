-- Lemmas on what is at the front of a text of records.
use Rattle.std.proofs.Common.{◌≡◌, ◌∙◌, refl, ap, arith, ℕ, ◌+◌, ◌-◌, ◌<◌, ◌≤◌, List, ◌++◌, length}
use Rattle.std.proofs.Common.{length-drop, take, drop, Bool, true, false}
use Rattle.std.proofs.lemmas.Bool.{lt-ltb, le-ltb}
use Rattle.std.proofs.lemmas.List.{take-append-le, drop-append-le, get_or_append_left}
use Rattle.std.specs.Str.{bytes_eq}
use Rattle.dispatch_room_journal.specs.declared.journal_inbox.TheConstants.{ENTRY_ROOM}
use Rattle.dispatch_room_journal.specs.declared.record_headers.TheConstants.{HEADER}
use Rattle.dispatch_room_journal.specs.declared.record_fronts.Front.{Front}
use Rattle.dispatch_room_journal.specs.declared.record_fronts.Front.TheVariants.{Empty, Short}
use Rattle.dispatch_room_journal.specs.declared.record_fronts.Front.TheVariants.{Wrong, Whole}
use Rattle.dispatch_room_journal.specs.Chains.{header, next_check}
use Rattle.dispatch_room_journal.specs.RecordFronts.{Stays, body_in, comes_next, front_of}
use Rattle.dispatch_room_journal.specs.RecordFronts.{number_in, sized_front, whole_front}

module _ (hash : List ℕ → List ℕ) (check : List ℕ) (has_ended : Bool) (text : List ℕ) where
  pub front_short : 1 ≤ length text → length text < HEADER
      → front_of hash check has_ended text ≡ Short
  front_short some short = rw (le-ltb (length text) 1 some, lt-ltb (length text) HEADER short) refl

  pub front_sized : HEADER ≤ length text
      → front_of hash check has_ended text
      ≡ sized_front hash check has_ended text (number_in text)
  front_sized long =
      rw (le-ltb (length text) 1 (omega (arith, long)), le-ltb (length text) HEADER long) refl

  module _ (size : ℕ) where
    pub sized_none : size < 1 → sized_front hash check has_ended text size ≡ Wrong
    sized_none none = rw (lt-ltb size 1 none) refl

    pub sized_wrong : 1 ≤ size → ENTRY_ROOM < size
        → sized_front hash check has_ended text size ≡ Wrong
    sized_wrong some wrong = rw (le-ltb size 1 some, lt-ltb ENTRY_ROOM size wrong) refl

    pub sized_short : 1 ≤ size → size ≤ ENTRY_ROOM → length text < HEADER + size
        → sized_front hash check has_ended text size ≡ Short
    sized_short some fits short =
        rw (le-ltb size 1 some, le-ltb ENTRY_ROOM size fits, lt-ltb (length text) (HEADER + size) short) refl

    pub sized_whole : 1 ≤ size → size ≤ ENTRY_ROOM → HEADER + size ≤ length text
        → sized_front hash check has_ended text size
        ≡ whole_front has_ended text size (next_check hash check (body_in size text))
    sized_whole some fits long =
        rw (le-ltb size 1 some, le-ltb ENTRY_ROOM size fits, le-ltb (length text) (HEADER + size) long) refl

-- what follows a record changes nothing of it
pub body_stays : (size : ℕ) (text more : List ℕ) → HEADER + size ≤ length text
    → body_in size (text ++ more) ≡ body_in size text
body_stays size text more long =
    ap (take size) (drop-append-le HEADER text more (omega (arith, long)))
    ∙ take-append-le size (drop HEADER text) more (omega (arith, long, length-drop HEADER text))

pub number_stays : (text more : List ℕ) → HEADER ≤ length text
    → number_in (text ++ more) ≡ number_in text
number_stays text more long =
    rw (
      get_or_append_left text more 0 0 (omega (arith, long)),
      get_or_append_left text more 0 1 (omega (arith, long)),
      get_or_append_left text more 0 2 (omega (arith, long)),
      get_or_append_left text more 0 3 (omega (arith, long)),
      get_or_append_left text more 0 4 (omega (arith, long)),
    ) refl

module _ (hash : List ℕ → List ℕ) (check : List ℕ) (has_ended : Bool) (text : List ℕ) (size : ℕ)
    (long : HEADER + size ≤ length text) where
  abbrev pub looked : List ℕ → Front
  looked t = whole_front has_ended t size (next_check hash check (body_in size t))

  pub whole_again : comes_next has_ended (body_in size text) ≡ false
      → Stays looked has_ended text Wrong
  whole_again again = λ more. rw (body_stays size text more long, again) refl

  pub whole_other : comes_next has_ended (body_in size text) ≡ true
      → bytes_eq (take HEADER text) (header size (next_check hash check (body_in size text))) ≡ false
      → Stays looked has_ended text Wrong
  whole_other next other = λ more.
      rw (body_stays size text more long, take-append-le HEADER text more (omega (arith, long)), next, other) refl

  pub whole_next : 1 ≤ size → comes_next has_ended (body_in size text) ≡ true
      → bytes_eq (take HEADER text) (header size (next_check hash check (body_in size text))) ≡ true
      → Stays looked has_ended text (Whole size (next_check hash check (body_in size text)))
  whole_next some next same = (
    long,
    some,
    next,
    λ more.
        rw (body_stays size text more long, take-append-le HEADER text more (omega (arith, long)), next, same) refl,
  )

-- the record stands there whose line is the one that it has
pub whole_is : (has_ended : Bool) (text : List ℕ) (size : ℕ) (check : List ℕ)
    → comes_next has_ended (body_in size text) ≡ true
    → bytes_eq (take HEADER text) (header size check) ≡ true
    → whole_front has_ended text size check ≡ Whole size check
whole_is has_ended text size check next same = rw (next, same) refl

-- a look that gives the same where the text is long enough stays as well
pub stays_by : (look other : List ℕ → Front) (has_ended : Bool) (text : List ℕ) (front : Front)
    → ((more : List ℕ) → look (text ++ more) ≡ other (text ++ more)) → look text ≡ other text
    → Stays other has_ended text front → Stays look has_ended text front
stays_by look other has_ended text Empty same now stays = stays
stays_by look other has_ended text Short same now stays = (stays.0, stays.1, now ∙ stays.2)
stays_by look other has_ended text Wrong same now stays = λ more. same more ∙ stays more
stays_by look other has_ended text (Whole size check) same now stays =
    (stays.0, stays.1, stays.2, λ more. same more ∙ stays.3 more)
