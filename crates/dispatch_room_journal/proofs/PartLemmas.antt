-- Lemmas on first parts of lines.
use Rattle.std.proofs.Common.{◌≡◌, ◌≢◌, ◌∙◌, sym, ap, subst, refl, arith, ℕ, ◌+◌, ◌-◌, ◌*◌, ◌/◌}
use Rattle.std.proofs.Common.{◌%◌, ◌<◌, ◌≤◌, List, [], ◌∷◌, ◌++◌, length, drop, Bool, true, false}
use Rattle.std.proofs.Common.{IsTrue, ◌↔◌, nat_eq, Option, Some, None, is_some, MatchOption, All}
use Rattle.std.proofs.Common.{◌⊎◌, inl, inr, codes, decimal, replicate, append-nil, append_assoc}
use Rattle.std.proofs.Common.{length-append}
use Rattle.std.specs.List.{starts_with}
use Rattle.std.proofs.lemmas.Bool.{cases_lt, false≢true}
use Rattle.std.proofs.lemmas.Bool.Decides.{Decides-eqb}
use Rattle.std.proofs.lemmas.Slice.Eq.{starts_is}
use Rattle.std.proofs.lemmas.Fmt.{decimal_step}
use Rattle.std.proofs.lemmas.List.{append_cancel_left, length-replicate}
use Rattle.std.proofs.Math.Seq.{take-append_seam}
use Rattle.std.proofs.lemmas.List.Elements.{All-append, All-take, All-replicate, All-same}
use Rattle.room_http_messages.specs.declared.limits.TheConstants.{INBOX_ROOM}
use Rattle.room_model.specs.declared.digests.Version.{Version}
use Rattle.dispatch_room_journal.specs.declared.entry_lines.EntryLine.TheVariants.{Room, Message}
use Rattle.dispatch_room_journal.specs.declared.entry_lines.EntryLine.TheVariants.{Answer}
use Rattle.dispatch_room_journal.specs.declared.entry_lines.TheConstants.{LEAST_STATUS}
use Rattle.dispatch_room_journal.specs.declared.entry_lines.TheConstants.{GREATEST_STATUS}
use Rattle.room_types.specs.declared.numbers.TheConstants.{LAST_MOMENT}
use Rattle.dispatch_room_journal.specs.declared.entry_lines.TheConstants.{DIGEST_DIGITS}
use Rattle.dispatch_room_journal.specs.Entries.{is_digest_digit, IsDigest, head_words}
use Rattle.dispatch_room_journal.specs.TextParts.{Lacks, BeginsOne, After, AreNumbers, IsNumber}
use Rattle.dispatch_room_journal.specs.TextParts.{IsLineText}
use Rattle.dispatch_room_journal.proofs.TextLemmas.{head, split, cut_unique, has_mark}
use Rattle.dispatch_room_journal.proofs.NumberLemmas.{digits_lack}

-- a text that begins with the word is the first part of one after it where what follows the word is
pub after_word : (word : List ℕ) (Kind : List ℕ → Type 0) (bytes rest : List ℕ)
    → bytes ≡ word ++ rest → BeginsOne Kind rest → BeginsOne (After word Kind) bytes
after_word word Kind bytes rest is has = (
  word ++ has.0,
  has.1,
  (has.0, has.2, refl),
  ap (λ t. word ++ t) has.3 ∙ sym (append_assoc word rest has.1) ∙ ap (λ t. t ++ has.1) (sym is),
)

pub before_word : (word : List ℕ) (Kind : List ℕ → Type 0) (bytes rest : List ℕ)
    → bytes ≡ word ++ rest → BeginsOne (After word Kind) bytes → BeginsOne Kind rest
before_word word Kind bytes rest is has =
    let inner = has.2 in (
      inner.0,
      has.1,
      inner.1,
      append_cancel_left word inner.0 (rest ++ has.1)
          (sym inner.2 ∙ has.3 ∙ ap (λ t. t ++ has.1) is ∙ append_assoc word rest has.1),
    )

-- the first part of a word is one of a text after it
pub within_word : (word : List ℕ) (Kind : List ℕ → Type 0) (bytes more : List ℕ) (u : List ℕ)
    → Kind u → word ≡ bytes ++ more → BeginsOne (After word Kind) bytes
within_word word Kind bytes more u kind is =
    (word ++ u, more ++ u, (u, kind, refl), ap (λ t. t ++ u) is ∙ append_assoc bytes more u)

-- what is the first part of a text after a word, and does not begin with the word, is a first part
-- of it
pub not_word : (word : List ℕ) (Kind : List ℕ → Type 0) (bytes : List ℕ)
    → ((rest : List ℕ) → bytes ≢ word ++ rest) → BeginsOne (After word Kind) bytes
    → (more : List ℕ) × (word ≡ bytes ++ more)
not_word word Kind bytes none has = go (split word bytes has.2.0 has.1 (sym has.2.2 ∙ has.3))
  where
    go : ((c : List ℕ) × (bytes ≡ word ++ c) × (has.2.0 ≡ c ++ has.1))
        ⊎ ((c : List ℕ) × (word ≡ bytes ++ c) × (has.1 ≡ c ++ has.2.0))
        → (more : List ℕ) × (word ≡ bytes ++ more)
    go (inl longer) = absurd (none longer.0 longer.1)
    go (inr shorter) = (shorter.0, shorter.1)

-- the first part of a digest: no more digits than one has
pub digest_part : (bytes : List ℕ) → length bytes ≤ DIGEST_DIGITS
    → All (λ byte. is_digest_digit byte ≡ true) bytes → BeginsOne IsDigest bytes
digest_part bytes short all =
    let zeros : List ℕ = replicate (DIGEST_DIGITS - length bytes) 48 in (
      bytes ++ zeros,
      zeros,
      (
        length-append bytes zeros ∙ ap (λ n. length bytes + n) (length-replicate (DIGEST_DIGITS - length bytes) 48)
            ∙ omega (arith, short),
        All-append (λ byte. is_digest_digit byte ≡ true) bytes zeros all
            (All-replicate (λ byte. is_digest_digit byte ≡ true) (DIGEST_DIGITS - length bytes) 48 refl),
      ),
      refl,
    )

all_front : (a b : List ℕ) → All (λ byte. is_digest_digit byte ≡ true) (a ++ b)
    → All (λ byte. is_digest_digit byte ≡ true) a
all_front a b all =
    All-same (λ byte. is_digest_digit byte ≡ true) a _ (sym (take-append_seam a b))
    (All-take (λ byte. is_digest_digit byte ≡ true) (length a) (a ++ b) all)

pub digest_begun : (bytes : List ℕ) → BeginsOne IsDigest bytes
    → (length bytes ≤ DIGEST_DIGITS) × All (λ byte. is_digest_digit byte ≡ true) bytes
digest_begun bytes has =
    let size : length bytes + length has.1
    ≡ DIGEST_DIGITS = sym (length-append bytes has.1) ∙ ap length (sym has.3) ∙ has.2.0 in (
      omega (arith, size),
      all_front bytes has.1 (All-same (λ byte. is_digest_digit byte ≡ true) _ _ (sym has.3) has.2.1),
    )

-- without a space, it is the first part of the moment
pub moment_part : (bytes : List ℕ) → BeginsOne (IsNumber 0 LAST_MOMENT) bytes
    → BeginsOne AreNumbers bytes
moment_part bytes has =
    let n = has.2 in
    let le : n.0 ≤ LAST_MOMENT = n.2 in (
      decimal n.0 ++ 32 ∷ decimal 1,
      has.1 ++ 32 ∷ decimal 1,
      (n.0, 1, le, omega arith, omega arith, refl),
      ap (λ t. t ++ 32 ∷ decimal 1) (sym n.3 ∙ has.3) ∙ append_assoc bytes has.1 (32 ∷ decimal 1),
    )

pub moment_begun : (bytes : List ℕ) → Lacks 32 bytes → BeginsOne AreNumbers bytes
    → BeginsOne (IsNumber 0 LAST_MOMENT) bytes
moment_begun bytes lacks has = go (split (decimal has.2.0) bytes (32 ∷ decimal has.2.1) has.1 (sym has.2.5 ∙ has.3))
  where
    go : ((c : List ℕ) × (bytes ≡ decimal has.2.0 ++ c) × (32 ∷ decimal has.2.1 ≡ c ++ has.1))
        ⊎ ((c : List ℕ) × (decimal has.2.0 ≡ bytes ++ c) × (has.1 ≡ c ++ 32 ∷ decimal has.2.1))
        → BeginsOne (IsNumber 0 LAST_MOMENT) bytes
    go (inr shorter) = (decimal has.2.0, shorter.0, (has.2.0, omega arith, has.2.2, refl), shorter.1)
    go (inl ([], longer, next)) = (
      decimal has.2.0,
      [],
      (has.2.0, omega arith, has.2.2, refl),
      sym (append-nil bytes ∙ longer ∙ append-nil (decimal has.2.0)),
    )
    go (inl (k ∷ c, longer, next)) =
        let space : k ≡ 32 = sym (ap head next) in
        absurd (has_mark 32 (decimal has.2.0) c
        (subst (λ (t : List ℕ). Lacks 32 t) (longer ∙ ap (λ j. decimal has.2.0 ++ j ∷ c) space) lacks))

-- after a space, the moment is whole, and the rest is the first part of the number of bytes
pub numbers_part : (bytes at size : List ℕ) → bytes ≡ at ++ 32 ∷ size → IsNumber 0 LAST_MOMENT at
    → BeginsOne (IsNumber 1 INBOX_ROOM) size → BeginsOne AreNumbers bytes
numbers_part bytes at size is moment has =
    let n = has.2 in (
      at ++ 32 ∷ decimal n.0,
      has.1,
      (moment.0, n.0, moment.2, n.1, n.2, ap (λ t. t ++ 32 ∷ decimal n.0) moment.3),
      ap (λ t. at ++ 32 ∷ t) (sym n.3 ∙ has.3) ∙ sym (append_assoc at (32 ∷ size) has.1)
          ∙ ap (λ t. t ++ has.1) (sym is),
    )

pub numbers_begun : (bytes at size : List ℕ) → bytes ≡ at ++ 32 ∷ size → Lacks 32 at
    → BeginsOne AreNumbers bytes → IsNumber 0 LAST_MOMENT at
    × BeginsOne (IsNumber 1 INBOX_ROOM) size
numbers_begun bytes at size is lacks has =
    let n = has.2 in
    let small : n.0 ≤ LAST_MOMENT = n.2 in
    let whole : decimal n.0 ++ 32 ∷ decimal n.1 ≡ at ++ 32 ∷ (size ++ has.1) =
    sym n.5 ∙ has.3 ∙ ap (λ t. t ++ has.1) is ∙ append_assoc at (32 ∷ size) has.1 in
    let parts = cut_unique 32 (decimal n.0) (decimal n.1) at (size ++ has.1)
    (digits_lack 32 n.0 (omega arith) (omega (arith, small))) lacks whole in
    ((n.0, omega arith, small, sym parts.0), (decimal n.1, has.1, (n.1, n.3, n.4, refl), parts.1))

-- one more digit, a zero
tens : (n : ℕ) → 1 ≤ n → n ≤ 99 → decimal (n * 10) ≡ decimal n ++ 48 ∷ []
tens n some few =
    let whole : n * 10 / 10 ≡ n = omega arith in
    let none : n * 10 % 10 ≡ 0 = omega arith in
    decimal_step (n * 10) (omega arith) (omega arith) ∙ ap (λ m. decimal m ++ (48 + n * 10 % 10) ∷ []) whole
    ∙ ap (λ d. decimal n ++ (48 + d) ∷ []) none

-- a number up to the greatest status that is not 0 is the first part of a status
pub status_part : (bytes : List ℕ) → BeginsOne (IsNumber 1 GREATEST_STATUS) bytes
    → BeginsOne (IsNumber LEAST_STATUS GREATEST_STATUS) bytes
status_part bytes has = go has.2.0 has.2.1 has.2.2 (sym has.2.3 ∙ has.3) (cases_lt has.2.0 10) (cases_lt has.2.0 100)
  where
    go : (n : ℕ) → 1 ≤ n → n ≤ GREATEST_STATUS → decimal n ≡ bytes ++ has.1 → (n < 10) ⊎ (10 ≤ n)
        → (n < 100) ⊎ (100 ≤ n)
        → BeginsOne (IsNumber LEAST_STATUS GREATEST_STATUS) bytes
    go n some few is short (inr long) = (decimal n, has.1, (n, long, few, refl), is)
    go n some few is (inr short) (inl long) = (
      decimal (n * 10),
      has.1 ++ 48 ∷ [],
      (n * 10, omega arith, omega arith, refl),
      tens n some (omega arith) ∙ ap (λ t. t ++ 48 ∷ []) is ∙ append_assoc bytes has.1 (48 ∷ []),
    )
    go n some few is (inl short) (inl long) = (
      decimal (n * 10 * 10),
      has.1 ++ 48 ∷ 48 ∷ [],
      (n * 10 * 10, omega arith, omega arith, refl),
      tens (n * 10) (omega arith) (omega arith) ∙ ap (λ t. t ++ 48 ∷ []) (tens n some (omega arith))
          ∙ append_assoc (decimal n) (48 ∷ []) (48 ∷ [])
          ∙ ap (λ t. t ++ 48 ∷ 48 ∷ []) is ∙ append_assoc bytes has.1 (48 ∷ 48 ∷ []),
    )

pub status_begun : (bytes : List ℕ) → BeginsOne (IsNumber LEAST_STATUS GREATEST_STATUS) bytes
    → BeginsOne (IsNumber 1 GREATEST_STATUS) bytes
status_begun bytes has =
    let n = has.2 in let low : LEAST_STATUS ≤ n.0 = n.1 in (has.0, has.1, (n.0, omega (arith, low), n.2, n.3), has.3)

-- a text with a space in it is no moment and number of bytes, unless its parts are
pub numbers_cut : (bytes at size : List ℕ) → bytes ≡ at ++ 32 ∷ size → Lacks 32 at
    → AreNumbers bytes → IsNumber 0 LAST_MOMENT at × IsNumber 1 INBOX_ROOM size
numbers_cut bytes at size is lacks n =
    let small : n.0 ≤ LAST_MOMENT = n.2 in
    let parts = cut_unique 32 (decimal n.0) (decimal n.1) at size
    (digits_lack 32 n.0 (omega arith) (omega (arith, small))) lacks (sym n.5 ∙ is) in
    ((n.0, omega arith, small, sym parts.0), (n.1, n.3, n.4, sym parts.1))

pub numbers_uncut : (bytes : List ℕ) → Lacks 32 bytes → ¬ (AreNumbers bytes)
numbers_uncut bytes lacks n = has_mark 32 (decimal n.0) (decimal n.1) (subst (λ (t : List ℕ). Lacks 32 t) n.5 lacks)

-- the parts say whether the whole is the first part of a moment and a number of bytes
pub numbers_some : (bytes at size : List ℕ) (r : Option ℕ) (b : Bool) → bytes ≡ at ++ 32 ∷ size
    → Lacks 32 at
    → MatchOption r (¬ (IsNumber 0 LAST_MOMENT at))
    (λ n. (0 ≤ n) × (n ≤ LAST_MOMENT) × (at ≡ decimal n)) → is_some r ≡ true
    → IsTrue b ↔ BeginsOne (IsNumber 1 INBOX_ROOM) size → IsTrue b ↔ BeginsOne AreNumbers bytes
numbers_some bytes at size (Some n) b is lacks has some begun = (
  λ yes. numbers_part bytes at size is (n, has.0, has.1, has.2) (begun.0 yes),
  λ all. begun.1 (numbers_begun bytes at size is lacks all).1,
)
numbers_some bytes at size None b is lacks has some begun = absurd (false≢true some)

pub numbers_none : (bytes at size : List ℕ) (r : Option ℕ) → bytes ≡ at ++ 32 ∷ size → Lacks 32 at
    → MatchOption r (¬ (IsNumber 0 LAST_MOMENT at))
    (λ n. (0 ≤ n) × (n ≤ LAST_MOMENT) × (at ≡ decimal n)) → is_some r ≡ false
    → ¬ (BeginsOne AreNumbers bytes)
numbers_none bytes at size (Some n) is lacks has none all = absurd (false≢true (sym none))
numbers_none bytes at size None is lacks has none all = has (numbers_begun bytes at size is lacks all).0

-- what follows the word says whether the whole is the first part of a text after it
pub word_some : (word : List ℕ) (Kind : List ℕ → Type 0) (bytes rest : List ℕ) (b : Bool)
    → bytes ≡ word ++ rest
    → IsTrue b ↔ BeginsOne Kind rest → IsTrue b ↔ BeginsOne (After word Kind) bytes
word_some word Kind bytes rest b is begun =
    (λ yes. after_word word Kind bytes rest is (begun.0 yes), λ all. begun.1 (before_word word Kind bytes rest is all))

-- and where the word does not begin it, only the word
pub word_none : (word : List ℕ) (Kind : List ℕ → Type 0) (bytes : List ℕ) (b : Bool) (u : List ℕ)
    → Kind u → ((rest : List ℕ) → bytes ≢ word ++ rest)
    → b ≡ starts_with nat_eq word bytes → IsTrue b ↔ BeginsOne (After word Kind) bytes
word_none word Kind bytes b u kind none is =
    let starts = starts_is Decides-eqb word bytes b is in (
      λ yes. within_word word Kind bytes (drop (length bytes) word) u kind (starts.0 yes),
      λ all. let front = not_word word Kind bytes none all in starts.1 front.0 front.1,
    )

-- the first part of a line is that of one of the four
pub line_of_room : (version : Version) (bytes : List ℕ)
    → BeginsOne (After (head_words version) IsDigest) bytes → BeginsOne IsLineText bytes
line_of_room version bytes has =
    (has.0, has.1, (Room (record { version = version; digits = has.2.0 }), has.2.1, has.2.2), has.3)

pub line_of_message : (bytes : List ℕ) → BeginsOne (After (codes "message ") AreNumbers) bytes
    → BeginsOne IsLineText bytes
line_of_message bytes has =
    let n = has.2.1 in
    (has.0, has.1, (Message n.0 n.1, (n.2, n.3, n.4), has.2.2 ∙ ap (λ t. codes "message " ++ t) n.5), has.3)

pub line_of_answer : (bytes : List ℕ)
    → BeginsOne (After (codes "answer ") (IsNumber LEAST_STATUS GREATEST_STATUS)) bytes
    → BeginsOne IsLineText bytes
line_of_answer bytes has =
    let n = has.2.1 in
    (has.0, has.1, (Answer n.0, (n.1, n.2), has.2.2 ∙ ap (λ t. codes "answer " ++ t) n.3), has.3)

pub line_cases : (bytes : List ℕ) → BeginsOne IsLineText bytes
    → ((version : Version) × BeginsOne (After (head_words version) IsDigest) bytes)
    ⊎ (BeginsOne (After (codes "message ") AreNumbers) bytes
    ⊎ BeginsOne (After (codes "answer ") (IsNumber LEAST_STATUS GREATEST_STATUS)) bytes)
line_cases bytes (whole, more, (Room h, is_one, is), goes_on) =
    inl (h.version, (whole, more, (h.digits, is_one, is), goes_on))
line_cases bytes (whole, more, (Message at size, is_one, is), goes_on) =
    inr
    (inl (whole, more, (decimal at ++ 32 ∷ decimal size, (at, size, is_one.0, is_one.1, is_one.2, refl), is), goes_on))
line_cases bytes (whole, more, (Answer status, is_one, is), goes_on) =
    inr (inr (whole, more, (decimal status, (status, is_one.0, is_one.1, refl), is), goes_on))

-- digests, numbers and statuses that there are
pub zeros_are_digest : IsDigest (replicate DIGEST_DIGITS 48)
zeros_are_digest = (
  length-replicate {A = ℕ} DIGEST_DIGITS 48,
  All-replicate (λ byte. is_digest_digit byte ≡ true) DIGEST_DIGITS 48 refl,
)

pub least_numbers : AreNumbers (decimal 0 ++ 32 ∷ decimal 1)
least_numbers = (0, 1, omega arith, omega arith, omega arith, refl)

pub least_status : IsNumber LEAST_STATUS GREATEST_STATUS (decimal LEAST_STATUS)
least_status = (LEAST_STATUS, omega arith, omega arith, refl)
