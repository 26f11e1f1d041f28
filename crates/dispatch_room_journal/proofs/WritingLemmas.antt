-- Lemmas on what is written one after another, and on how long an entry is.
use Rattle.std.proofs.Common.{◌≡◌, ◌∙◌, refl, sym, ap, arith, ℕ, ◌+◌, ◌<◌, ◌≤◌, List, ◌++◌, ◌∷◌, []}
use Rattle.std.proofs.Common.{length, append_assoc, length-append, codes, decimal, Bool, Option}
use Rattle.std.proofs.Common.{Result, Ok, Err}
use Rattle.std.proofs.lemmas.Fmt.{length-decimal-le}
use Rattle.room_http_messages.specs.Streams.{WritesAll}
use Rattle.room_http_messages.proofs.StreamLemmas.{Appends-more}
use Rattle.room_model.specs.declared.digests.Version.{Version}
use Rattle.room_model.specs.declared.digests.Version.TheVariants.{First, Second}
use Rattle.dispatch_room_journal.specs.declared.journal_inbox.TheConstants.{ENTRY_ROOM}
use Rattle.dispatch_room_journal.specs.declared.entry_lines.EntryLine.{EntryLine}
use Rattle.dispatch_room_journal.specs.declared.entry_lines.EntryLine.TheVariants.{Room, Message}
use Rattle.dispatch_room_journal.specs.declared.entry_lines.EntryLine.TheVariants.{Answer}
use Rattle.dispatch_room_journal.specs.Entries.{Entry, room, message, answer, IsLine, IsEntry}
use Rattle.dispatch_room_journal.specs.Entries.{head_words, line_text, text_of}

words_length : (version : Version) → length (head_words version) ≡ 7
words_length First = refl
words_length Second = refl

-- a line is not longer than that of a digest
pub line_short : (l : EntryLine) → IsLine l → length (line_text l) ≤ 71
line_short (Room h) is = omega (arith, is.0, words_length h.version, length-append (head_words h.version) h.digits)
line_short (Message at size) is =
    omega (
      arith,
      length-append (codes "message ") (decimal at ++ 32 ∷ decimal size),
      length-append (decimal at) (32 ∷ decimal size),
      length-decimal-le 10 at (omega arith) (omega (arith, is)) (omega (arith, is)),
      length-decimal-le 4 size (omega arith) (omega (arith, is)) (omega (arith, is)),
    )
line_short (Answer status) is =
    omega (
      arith,
      length-append (codes "answer ") (decimal status),
      length-decimal-le 3 status (omega arith) (omega (arith, is)) (omega (arith, is)),
    )

message_short : (at size : ℕ) → IsLine (Message at size) → length (line_text (Message at size)) ≤ 23
message_short at size is =
    omega (
      arith,
      length-append (codes "message ") (decimal at ++ 32 ∷ decimal size),
      length-append (decimal at) (32 ∷ decimal size),
      length-decimal-le 10 at (omega arith) (omega (arith, is)) (omega (arith, is)),
      length-decimal-le 4 size (omega arith) (omega (arith, is)) (omega (arith, is)),
    )

-- there is room for a message's line with its end, its bytes, and one byte more
pub message_fits : (at : ℕ) (bytes : List ℕ) → IsEntry (message at bytes)
    → length (line_text (Message at (length bytes)) ++ 10 ∷ []) + length bytes < ENTRY_ROOM
message_fits at bytes is =
    let line = line_text (Message at (length bytes)) in
    omega (arith, is, message_short at (length bytes) is, length-append line (10 ∷ []))

-- there is room for each entry
pub entry_fits : (e : Entry) → IsEntry e → length (text_of e) ≤ ENTRY_ROOM
entry_fits (room digest) is =
    omega (arith, line_short (Room digest) is, length-append (line_text (Room digest)) (10 ∷ []))
entry_fits (answer status) is =
    omega (arith, line_short (Answer status) is, length-append (line_text (Answer status)) (10 ∷ []))
entry_fits (message at bytes) is =
    let line = line_text (Message at (length bytes)) in
    omega (
      arith,
      message_fits at bytes is,
      length-append line (10 ∷ []),
      length-append line (10 ∷ (bytes ++ 10 ∷ [])),
      length-append bytes (10 ∷ []),
    )

module _ {W E : Type 0} (held : W → Option (List ℕ)) (failed : W → Bool) where
  -- what is written after what was written
  pub WritesAll-more : (a b c : W) (xs ys : List ℕ) (r : Result (Unit {0}) E)
      → WritesAll {E = E} held failed a b xs (Ok tt) → WritesAll held failed b c ys r
      → WritesAll held failed a c (xs ++ ys) r
  WritesAll-more a b c xs ys (Ok u) first second = record {
    all = (Appends-more _ _ _ _ _ first.all.0 second.all.0, second.all.1);
    part = tt;
  }
  WritesAll-more a b c xs ys (Err e) first second =
      let cut = second.part in record {
        all = tt;
        part = (
          xs ++ cut.0,
          cut.1,
          ap (λ t. xs ++ t) cut.2 ∙ sym (append_assoc xs cut.0 cut.1),
          Appends-more _ _ _ _ _ first.all.0 cut.3,
          cut.4,
        );
      }

  -- and what was not written for a failure before it
  pub WritesAll-cut : (a b : W) (xs ys : List ℕ) (e : E) → WritesAll held failed a b xs (Err e)
      → WritesAll held failed a b (xs ++ ys) (Err e)
  WritesAll-cut a b xs ys e first =
      let cut = first.part in record {
        all = tt;
        part = (cut.0, cut.1 ++ ys, ap (λ t. t ++ ys) cut.2 ∙ append_assoc cut.0 cut.1 ys, cut.3, cut.4);
      }
