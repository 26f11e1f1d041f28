-- Lemmas on entries: what a text begins with.
use Rattle.std.proofs.Common.{◌≡◌, ◌≢◌, ◌∙◌, sym, ap, subst, refl, arith, ℕ, ◌+◌, ◌-◌, ◌<◌, ◌≤◌}
use Rattle.std.proofs.Common.{List, [], ◌∷◌, ◌++◌, length, take, drop, drop-cons, add-one}
use Rattle.std.proofs.Common.{take-append-drop, length-take-le, get_or, ◌⊎◌, inl, inr, replicate}
use Rattle.std.proofs.Common.{append-nil, append_assoc, length-append}
use Rattle.std.proofs.Math.Seq.{get_or-append_seam}
use Rattle.std.proofs.lemmas.List.{length-replicate, drop_at, get_or_append_left}
use Rattle.std.proofs.lemmas.List.Elements.{All-head, All-tail}
use Rattle.room_model.specs.declared.digests.StartDigest.{StartDigest}
use Rattle.room_model.specs.declared.digests.Version.TheVariants.{First}
use Rattle.dispatch_room_journal.specs.declared.entry_lines.EntryLine.{EntryLine}
use Rattle.dispatch_room_journal.specs.declared.entry_lines.EntryLine.TheVariants.{Room, Message}
use Rattle.dispatch_room_journal.specs.declared.entry_lines.EntryLine.TheVariants.{Answer}
use Rattle.dispatch_room_journal.specs.Entries.{Entry, room, message, answer, IsLine, IsEntry}
use Rattle.dispatch_room_journal.specs.Entries.{line_text, line_of, rest_of, text_of, texts_of}
use Rattle.dispatch_room_journal.specs.Entries.{IsPart, IsForeign}
use Rattle.dispatch_room_journal.specs.declared.entry_prefixes.EntryLayout.{EntryLayout}
use Rattle.dispatch_room_journal.specs.EntryPrefixes.{IsLayout}
use Rattle.dispatch_room_journal.specs.Laws.{IsOneEntry, IsNoEnd, IsOneJournal}
use Rattle.dispatch_room_journal.specs.TextParts.{Lacks, BeginsOne, IsLineText}
use Rattle.dispatch_room_journal.proofs.TextLemmas.{head, split, parts_of, cut_unique, has_mark}
use Rattle.dispatch_room_journal.proofs.LineLemmas.{line_lacks, line_injective}

-- what a line and an entry's line can be distinguished by
abbrev kind : EntryLine → ℕ
kind (Room digest) = 0
kind (Message at size) = 1
kind (Answer status) = 2

abbrev moment_of : EntryLine → ℕ
moment_of (Message at size) = at
moment_of (Room digest) = 0
moment_of (Answer status) = 0

abbrev size_of : EntryLine → ℕ
size_of (Message at size) = size
size_of (Room digest) = 0
size_of (Answer status) = 0

abbrev head_of : EntryLine → StartDigest
head_of (Room h) = h
head_of (Message at size) = record { version = First; digits = [] }
head_of (Answer status) = record { version = First; digits = [] }

abbrev status_of : EntryLine → ℕ
status_of (Answer status) = status
status_of (Room digest) = 0
status_of (Message at size) = 0

-- a text that begins with a line and its end, and with an entry, begins with the entry's line
pub line_is : (l : EntryLine) (rest : List ℕ) (e : Entry) (left : List ℕ) → IsLine l → IsEntry e
    → line_text l ++ 10 ∷ rest ≡ text_of e ++ left
    → (l ≡ line_of e) × (rest ≡ rest_of e ++ left)
line_is l rest e left x y is =
    let parts = cut_unique 10 (line_text l) rest (line_text (line_of e)) (rest_of e ++ left) (line_lacks l x)
    (line_lacks (line_of e) y)
    (is ∙ append_assoc (line_text (line_of e)) (10 ∷ rest_of e) left) in
    (line_injective l (line_of e) x y parts.0, parts.1)

-- entries of one line, and what follows them
same_line : (e f : Entry) (rest left : List ℕ) → line_of e ≡ line_of f
    → rest_of e ++ rest ≡ rest_of f ++ left → (e ≡ f) × (rest ≡ left)
same_line (room d) (room f) rest left line is = let same : d ≡ f = ap head_of line in (ap room same, is)
same_line (message at bytes) (message later more) rest left line is =
    let same_at : at ≡ later = ap moment_of line in
    let len : length bytes ≡ length more = ap size_of line in
    let parts = parts_of bytes more (10 ∷ rest) (10 ∷ left)
    (sym (append_assoc bytes (10 ∷ []) rest) ∙ is ∙ append_assoc more (10 ∷ []) left) len in
    ((λ i. message (same_at i) (parts.0 i)), ap (drop 1) parts.1)
same_line (answer s) (answer t) rest left line is = let same : s ≡ t = ap status_of line in (ap answer same, is)
same_line (room d) (message at bytes) rest left line is = absurd (omega (arith, ap kind line))
same_line (room d) (answer t) rest left line is = absurd (omega (arith, ap kind line))
same_line (message at bytes) (room d) rest left line is = absurd (omega (arith, ap kind line))
same_line (message at bytes) (answer t) rest left line is = absurd (omega (arith, ap kind line))
same_line (answer s) (room d) rest left line is = absurd (omega (arith, ap kind line))
same_line (answer s) (message at bytes) rest left line is = absurd (omega (arith, ap kind line))

one : (e f : Entry) (rest left : List ℕ) → IsEntry e → IsEntry f
    → text_of e ++ rest ≡ text_of f ++ left → (e ≡ f) × (rest ≡ left)
one e f rest left x y is =
    let found = line_is (line_of e) (rest_of e ++ rest) f left x y
    (sym (append_assoc (line_text (line_of e)) (10 ∷ rest_of e) rest) ∙ is) in
    same_line e f rest left found.0 found.1

pub one_entry_law : IsOneEntry
one_entry_law text e f rest left x y = one e f rest left x.0 y.0 (sym x.1 ∙ y.1)

pub no_end_law : IsNoEnd
no_end_law text e rest x = (empty, part, foreign)
  where
    empty : ¬ (text ≡ [])
    empty nothing =
        let size = ap length (sym nothing ∙ x.1) in
        omega (arith, simp length-append at size)

    part : ¬ (IsPart text)
    part (f, more, is_f, goes_on, some) =
        let whole : text_of e ++ (rest ++ more) ≡ text_of f ++ [] =
        sym (append_assoc (text_of e) rest more) ∙ ap (λ t. t ++ more) (sym x.1) ∙ sym goes_on
        ∙ sym (append-nil (text_of f)) in
        let size : length rest + length more
        ≡ 0 = sym (length-append rest more) ∙ ap length (one e f (rest ++ more) [] x.0 is_f whole).1 in
        omega (arith, size, some)

    foreign : ¬ (IsForeign text)
    foreign none = none [] e rest (x.0, append-nil text ∙ x.1)

text_not_empty : (e : Entry) (rest : List ℕ) → ¬ ([] ≡ text_of e ++ rest)
text_not_empty e rest is = let size = ap length is in omega (arith, simp length-append at size)

pub one_journal_law : IsOneJournal
one_journal_law [] [] x y is = refl
one_journal_law [] (f ∷ others) x y is = absurd (text_not_empty f (texts_of others) is)
one_journal_law (e ∷ entries) [] x y is = absurd (text_not_empty e (texts_of entries) (sym is))
one_journal_law (e ∷ entries) (f ∷ others) x y is =
    let first = one e f (texts_of entries) (texts_of others) (All-head IsEntry e entries x)
    (All-head IsEntry f others y) is in
    let more = one_journal_law entries others (All-tail IsEntry e entries x) (All-tail IsEntry f others y) first.1 in
    λ i. first.0 i ∷ more i

-- the least entry of a line: a message of zeros
abbrev entry_of : EntryLine → Entry
entry_of (Room digest) = room digest
entry_of (Message at size) = message at (replicate size 48)
entry_of (Answer status) = answer status

line_of_entry : (l : EntryLine) → line_of (entry_of l) ≡ l
line_of_entry (Room digest) = refl
line_of_entry (Message at size) = ap (λ n. Message at n) (length-replicate size 48)
line_of_entry (Answer status) = refl

-- the first part of a line is an entry that is cut short
pub part_of_line : (bytes : List ℕ) → BeginsOne IsLineText bytes → IsPart bytes
part_of_line bytes has =
    let l = has.2.0 in
    let more = has.1 in
    let line : line_text l ≡ bytes ++ more = sym has.2.2 ∙ has.3 in
    let e = entry_of l in (
      e,
      more ++ 10 ∷ rest_of e,
      subst (λ (m : EntryLine). IsLine m) (sym (line_of_entry l)) has.2.1,
      ap (λ m. line_text m ++ 10 ∷ rest_of e) (line_of_entry l) ∙ ap (λ t. t ++ 10 ∷ rest_of e) line
          ∙ append_assoc bytes more (10 ∷ rest_of e),
      omega (arith, length-append more (10 ∷ rest_of e)),
    )

-- bytes without a line end that are no first part of a line begin with no entry
pub foreign_part : (bytes : List ℕ) → Lacks 10 bytes → ¬ (BeginsOne IsLineText bytes)
    → IsForeign bytes
foreign_part bytes lacks none more e rest begun =
    go (split bytes (line_text (line_of e)) more (10 ∷ rest_of e ++ rest) whole)
  where
    whole : bytes ++ more ≡ line_text (line_of e) ++ (10 ∷ rest_of e ++ rest)
    whole = begun.1 ∙ append_assoc (line_text (line_of e)) (10 ∷ rest_of e) rest

    go : ((c : List ℕ) × (line_text (line_of e) ≡ bytes ++ c)
        × (more ≡ c ++ (10 ∷ rest_of e ++ rest)))
        ⊎ ((c : List ℕ) × (bytes ≡ line_text (line_of e) ++ c) × (10 ∷ rest_of e ++ rest ≡ c ++ more)) → ⊥
    go (inl (c, longer, next)) = none (line_text (line_of e), c, (line_of e, begun.0, refl), longer)
    go (inr ([], shorter, next)) =
        none (
          line_text (line_of e),
          [],
          (line_of e, begun.0, refl),
          sym (append-nil bytes ∙ shorter ∙ append-nil (line_text (line_of e))),
        )
    go (inr (k ∷ c, shorter, next)) =
        let end : k ≡ 10 = sym (ap head next) in
        has_mark 10 (line_text (line_of e)) c
        (subst (λ (t : List ℕ). Lacks 10 t) (shorter ∙ ap (λ j. line_text (line_of e) ++ j ∷ c) end) lacks)

-- bytes up to a line end that are no line begin no entry
pub foreign_line : (bytes line rest : List ℕ) → Lacks 10 line → bytes ≡ line ++ 10 ∷ rest
    → ¬ (IsLineText line) → IsForeign bytes
foreign_line bytes line rest lacks is none more e left begun =
    let parts = cut_unique 10 line (rest ++ more) (line_text (line_of e)) (rest_of e ++ left) lacks
    (line_lacks (line_of e) begun.0)
    (sym (append_assoc line (10 ∷ rest) more) ∙ ap (λ t. t ++ more) (sym is) ∙ begun.1
    ∙ append_assoc (line_text (line_of e)) (10 ∷ rest_of e) left) in
    none (line_of e, begun.0, parts.0)

-- a message of which not all bytes and the line end are there is cut short
pub part_of_message : (bytes : List ℕ) (at size : ℕ) (rest : List ℕ) → IsLine (Message at size)
    → bytes ≡ line_text (Message at size) ++ 10 ∷ rest
    → length rest ≤ size → IsPart bytes
part_of_message bytes at size rest x is short =
    let zeros : List ℕ = replicate (size - length rest) 48 in
    let len : length (rest ++ zeros) ≡ size =
    length-append rest zeros ∙ ap (λ n. length rest + n) (length-replicate (size - length rest) 48)
    ∙ omega (arith, short) in
    let line : Message at (length (rest ++ zeros)) ≡ Message at size = ap (λ n. Message at n) len in (
      message at (rest ++ zeros),
      zeros ++ 10 ∷ [],
      subst (λ (m : EntryLine). IsLine m) (sym line) x,
      ap (λ m. line_text m ++ 10 ∷ ((rest ++ zeros) ++ 10 ∷ [])) line
          ∙ ap (λ t. line_text (Message at size) ++ 10 ∷ t) (append_assoc rest zeros (10 ∷ []))
          ∙ sym (append_assoc (line_text (Message at size)) (10 ∷ rest) (zeros ++ 10 ∷ []))
          ∙ ap (λ t. t ++ (zeros ++ 10 ∷ [])) (sym is),
      omega (arith, length-append zeros (10 ∷ [])),
    )

-- after a message's bytes stands a line end
after_message : (e : Entry) (at size : ℕ) (left : List ℕ) → Message at size ≡ line_of e
    → get_or (rest_of e ++ left) size 0 ≡ 10
after_message (message time bytes) at size left line =
    let len : size ≡ length bytes = ap size_of line in
    ap (λ t. get_or t size 0) (append_assoc bytes (10 ∷ []) left) ∙ ap (λ n. get_or (bytes ++ 10 ∷ left) n 0) len
    ∙ get_or-append_seam bytes 10 left 0
after_message (room d) at size left line = absurd (omega (arith, ap kind line))
after_message (answer s) at size left line = absurd (omega (arith, ap kind line))

pub foreign_message : (bytes : List ℕ) (at size : ℕ) (rest : List ℕ) → IsLine (Message at size)
    → bytes ≡ line_text (Message at size) ++ 10 ∷ rest
    → size < length rest → get_or rest size 0 ≢ 10 → IsForeign bytes
foreign_message bytes at size rest x is long other more e left begun =
    let found = line_is (Message at size) (rest ++ more) e left x begun.0
    (sym (append_assoc (line_text (Message at size)) (10 ∷ rest) more) ∙ ap (λ t. t ++ more) (sym is) ∙ begun.1) in
    other (sym (get_or_append_left rest more 0 size long) ∙ ap (λ t. get_or t size 0) found.1
    ∙ after_message e at size left found.0)

-- bytes that begin with an entry have its layout
whole : (bytes rest : List ℕ) (layout : EntryLayout) (e : Entry) → IsEntry e → bytes ≡ text_of e ++ rest
    → layout.line ≡ line_of e
    → layout.start ≡ length (line_text (line_of e)) + 1 → layout.end ≡ length (text_of e)
    → IsLayout bytes layout e
whole bytes rest layout e x is line start end = record {
  begins = (
    x,
    is ∙ ap (λ t. text_of e ++ t) (sym (ap (drop layout.end) is ∙ drop_at (text_of e) rest layout.end (sym end))),
  );
  line = line;
  start = start;
  end = end;
}

length_of : (l : EntryLine) (rest bytes : List ℕ) → bytes ≡ line_text l ++ 10 ∷ rest
    → length bytes ≡ length (line_text l) + 1 + length rest
length_of l rest bytes is = ap length is ∙ length-append (line_text l) (10 ∷ rest) ∙ omega arith

-- a line of a room or of an answer is its entry
pub whole_line : (bytes rest : List ℕ) (layout : EntryLayout) (l : EntryLine) → IsLine l
    → ((at size : ℕ) → l ≢ Message at size) → bytes ≡ line_text l ++ 10 ∷ rest
    → layout.line ≡ l → layout.start ≡ length bytes - length rest → layout.end ≡ layout.start
    → (e : Entry) × IsLayout bytes layout e
whole_line bytes rest layout (Room d) x other is line start end =
    let size = length_of (Room d) rest bytes is in (
      room d,
      whole bytes rest layout (room d) x (is ∙ sym (append_assoc (line_text (Room d)) (10 ∷ []) rest)) line
          (omega (arith, start, size))
          (omega (arith, start, end, size, length-append (line_text (Room d)) (10 ∷ []))),
    )
whole_line bytes rest layout (Answer s) x other is line start end =
    let size = length_of (Answer s) rest bytes is in (
      answer s,
      whole bytes rest layout (answer s) x (is ∙ sym (append_assoc (line_text (Answer s)) (10 ∷ []) rest)) line
          (omega (arith, start, size))
          (omega (arith, start, end, size, length-append (line_text (Answer s)) (10 ∷ []))),
    )
whole_line bytes rest layout (Message at size) x other is line start end = absurd (other at size refl)

-- a line of a message, as many bytes as it says, and a line end
pub whole_message : (bytes rest : List ℕ) (layout : EntryLayout) (at size : ℕ)
    → IsLine (Message at size) → bytes ≡ line_text (Message at size) ++ 10 ∷ rest
    → size < length rest → get_or rest size 0 ≡ 10 → layout.line ≡ Message at size
    → layout.start ≡ length bytes - length rest → layout.end ≡ layout.start + size + 1
    → (e : Entry) × IsLayout bytes layout e
whole_message bytes rest layout at size x is long end_is line start end =
    let body = take size rest in
    let len : length body ≡ size = length-take-le size rest (omega (arith, long)) in
    let same : Message at (length body) ≡ Message at size = ap (λ n. Message at n) len in
    let cut : rest ≡ body ++ 10 ∷ drop (size + 1) rest =
    sym (take-append-drop size rest)
    ∙ ap (λ t. body ++ t) (rw (add-one) (drop-cons rest size 0 long) ∙ ap (λ k. k ∷ drop (size + 1) rest) end_is) in
    let total = length_of (Message at size) rest bytes is in (
      message at body,
      whole bytes (drop (size + 1) rest) layout (message at body) (subst (λ (m : EntryLine). IsLine m) (sym same) x)
          (is ∙ ap (λ m. line_text m ++ 10 ∷ rest) (sym same)
          ∙ ap (λ t. line_text (Message at (length body)) ++ 10 ∷ t)
          (cut ∙ sym (append_assoc body (10 ∷ []) (drop (size + 1) rest)))
          ∙ sym (append_assoc (line_text (Message at (length body))) (10 ∷ (body ++ 10 ∷ [])) (drop (size + 1) rest)))
          (line ∙ sym same)
          (omega (arith, start, total, ap (λ m. length (line_text m)) same))
          (omega (
            arith,
            start,
            end,
            total,
            len,
            ap (λ m. length (line_text m)) same,
            length-append (line_text (Message at (length body))) (10 ∷ (body ++ 10 ∷ [])),
            length-append body (10 ∷ []),
          )),
    )
