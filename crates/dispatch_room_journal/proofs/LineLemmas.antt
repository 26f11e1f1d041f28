-- Lemmas on lines.
use Rattle.std.proofs.Common.{◌≡◌, ◌≢◌, ap, arith, refl, get_or, ℕ, ◌+◌, List, ◌∷◌, ◌++◌, true}
use Rattle.std.proofs.Common.{codes, decimal}
use Rattle.std.proofs.lemmas.Bool.{false≢true}
use Rattle.std.proofs.lemmas.Fmt.{decimal_injective}
use Rattle.std.proofs.lemmas.List.{append_cancel_left}
use Rattle.std.proofs.lemmas.List.Elements.{All-weaker, All-cons, All-from_recursion}
use Rattle.room_model.specs.declared.digests.Version.{Version}
use Rattle.room_model.specs.declared.digests.Version.TheVariants.{First, Second}
use Rattle.dispatch_room_journal.specs.declared.entry_lines.EntryLine.{EntryLine}
use Rattle.dispatch_room_journal.specs.declared.entry_lines.EntryLine.TheVariants.{Room, Message}
use Rattle.dispatch_room_journal.specs.declared.entry_lines.EntryLine.TheVariants.{Answer}
use Rattle.dispatch_room_journal.specs.Entries.{is_digest_digit, IsDigest, IsLine, head_words}
use Rattle.dispatch_room_journal.specs.Entries.{line_text}
use Rattle.dispatch_room_journal.specs.TextParts.{Lacks}
use Rattle.dispatch_room_journal.proofs.TextLemmas.{head, cut_unique, lacks_append}
use Rattle.dispatch_room_journal.proofs.NumberLemmas.{digits_lack}

-- a word and what is not the mark
lacks_cons : (mark k : ℕ) (a : List ℕ) → k ≢ mark → Lacks mark a → Lacks mark (k ∷ a)
lacks_cons mark k a apart rest = All-cons (λ byte. byte ≢ mark) k a apart rest

lacks_words : (version : Version) → Lacks 10 (head_words version)
lacks_words First = All-from_recursion (λ byte. byte ≢ 10) (codes "room 1 ")
    (omega arith, (omega arith, (omega arith, (omega arith, (omega arith, (omega arith, (omega arith, tt)))))))
lacks_words Second = All-from_recursion (λ byte. byte ≢ 10) (codes "room 2 ")
    (omega arith, (omega arith, (omega arith, (omega arith, (omega arith, (omega arith, (omega arith, tt)))))))

lacks_message : Lacks 10 (codes "message ")
lacks_message = All-from_recursion (λ byte. byte ≢ 10) (codes "message ") (
  omega arith,
  (omega arith, (omega arith, (omega arith, (omega arith, (omega arith, (omega arith, (omega arith, tt))))))),
)

lacks_answer : Lacks 10 (codes "answer ")
lacks_answer = All-from_recursion (λ byte. byte ≢ 10) (codes "answer ")
    (omega arith, (omega arith, (omega arith, (omega arith, (omega arith, (omega arith, (omega arith, tt)))))))

digest_lacks : (digest : List ℕ) → IsDigest digest → Lacks 10 digest
digest_lacks digest is =
    All-weaker (λ byte. is_digest_digit byte ≡ true) (λ byte. byte ≢ 10)
    (λ byte digit ten. false≢true (rw ten at digit)) digest is.1

-- a line has no line end in it
pub line_lacks : (l : EntryLine) → IsLine l → Lacks 10 (line_text l)
line_lacks (Room h) is =
    lacks_append 10 (head_words h.version) h.digits (lacks_words h.version) (digest_lacks h.digits is)
line_lacks (Message at size) is =
    lacks_append 10 (codes "message ") (decimal at ++ 32 ∷ decimal size) lacks_message
    (lacks_append 10 (decimal at) (32 ∷ decimal size) (digits_lack 10 at (omega arith) (omega (arith, is)))
    (lacks_cons 10 32 (decimal size) (omega arith) (digits_lack 10 size (omega arith) (omega (arith, is)))))
line_lacks (Answer status) is =
    lacks_append 10 (codes "answer ") (decimal status) lacks_answer
    (digits_lack 10 status (omega arith) (omega (arith, is)))

-- the text of a head says which digest it is, and begins as no other line does
head_injective : (v w : Version) (d f : List ℕ) → head_words v ++ d ≡ head_words w ++ f
    → (v ≡ w) × (d ≡ f)
head_injective First First d f is = (refl, append_cancel_left (codes "room 1 ") d f is)
head_injective Second Second d f is = (refl, append_cancel_left (codes "room 2 ") d f is)
head_injective First Second d f is = absurd (omega (arith, ap (λ t. get_or t 5 0) is))
head_injective Second First d f is = absurd (omega (arith, ap (λ t. get_or t 5 0) is))

words_first : (version : Version) (digits : List ℕ) → head (head_words version ++ digits) ≡ 114
words_first First digits = refl
words_first Second digits = refl

-- lines of one text are one
pub line_injective : (l m : EntryLine) → IsLine l → IsLine m → line_text l ≡ line_text m → l ≡ m
line_injective (Room d) (Room f) x y is =
    let same = head_injective d.version f.version d.digits f.digits is in
    λ i. Room (record { version = same.0 i; digits = same.1 i })
line_injective (Message at size) (Message moment count) x y is =
    let numbers = append_cancel_left (codes "message ") (decimal at ++ 32 ∷ decimal size)
    (decimal moment ++ 32 ∷ decimal count) is in
    let parts = cut_unique 32 (decimal at) (decimal size) (decimal moment) (decimal count)
    (digits_lack 32 at (omega arith) (omega (arith, x)))
    (digits_lack 32 moment (omega arith) (omega (arith, y))) numbers in
    let same_at : at ≡ moment = decimal_injective at moment (omega (arith, x)) (omega (arith, y)) parts.0 in
    let same_size : size ≡ count = decimal_injective size count (omega (arith, x)) (omega (arith, y)) parts.1 in
    λ i. Message (same_at i) (same_size i)
line_injective (Answer s) (Answer t) x y is =
    ap Answer (decimal_injective s t (omega (arith, x)) (omega (arith, y))
    (append_cancel_left (codes "answer ") (decimal s) (decimal t) is))
line_injective (Room d) (Message at size) x y is = absurd (omega (arith, words_first d.version d.digits, ap head is))
line_injective (Room d) (Answer t) x y is = absurd (omega (arith, words_first d.version d.digits, ap head is))
line_injective (Message at size) (Room d) x y is = absurd (omega (arith, words_first d.version d.digits, ap head is))
line_injective (Message at size) (Answer t) x y is = absurd (omega (arith, ap head is))
line_injective (Answer s) (Room d) x y is = absurd (omega (arith, words_first d.version d.digits, ap head is))
line_injective (Answer s) (Message at size) x y is = absurd (omega (arith, ap head is))
