-- Lemmas on reads.
use Rattle.std.proofs.Common.{◌≡◌, ◌∙◌, ap, refl, sym, arith, ℕ, ◌+◌, ◌-◌, ◌<◌, ◌≤◌, List, ◌++◌}
use Rattle.std.proofs.Common.{length, append-nil, append_assoc, subst, drop, take, Bool, Option}
use Rattle.std.proofs.Common.{Some, None, Result, Ok, Err}
use Rattle.std.specs.Io.KnownBytes.{prepend_known, Keeps, Consumes}
use Rattle.std.proofs.lemmas.List.{drop-append-le}
use Rattle.httparse.specs.Grammar.{print_request}
use Rattle.room_http_messages.specs.declared.read_faults.Unread.{Unread}
use Rattle.room_http_messages.specs.declared.read_faults.Unread.TheVariants.{End, Cut, ReadFault}
use Rattle.room_http_messages.specs.declared.read_faults.Unread.TheVariants.{ReadsSpent, Refused}
use Rattle.room_http_messages.specs.declared.limits.TheConstants.{INBOX_ROOM}
use Rattle.room_http_messages.specs.declared.messages.Layout.{Layout}
use Rattle.room_http_messages.specs.Messages.{WholeMessage, HasMessage, IsPart}
use Rattle.room_http_messages.specs.Readings.{SaysOf, FirstIs}
use Rattle.room_http_messages.specs.Streams.{CountsBy, Reads}
use Rattle.room_http_messages.proofs.StreamLemmas.{Keeps-refl, Keeps-trans}

CountsBy-none : (known : Option ℕ) → CountsBy 0 known known
CountsBy-none None = refl
CountsBy-none (Some n) = omega arith

CountsBy-trans : (j k m : ℕ) (a b c : Option ℕ) → CountsBy j a b → CountsBy k b c → m ≡ j + k
    → CountsBy m a c
CountsBy-trans j k m None None c first second is = second
CountsBy-trans j k m None (Some n) c first second is = absurd (cc)
CountsBy-trans j k m (Some n) None None first second is = tt
CountsBy-trans j k m (Some n) None (Some x) first second is = absurd (cc)
CountsBy-trans j k m (Some n) (Some x) None first second is = tt
CountsBy-trans j k m (Some n) (Some x) (Some y) first second is = omega arith

-- the stream that bytes go from to the inbox stays the same
same_stream : (old new : Option (List ℕ)) (before more after : List ℕ) → after ≡ before ++ more
    → Consumes old new more
    → Keeps (prepend_known before old) (prepend_known after new)
same_stream None new before more after is taken = tt
same_stream (Some old) None before more after is taken = taken
same_stream (Some old) (Some new) before more after is taken = rw (is, taken) (append_assoc before more new)

kept_stream : (old new : Option (List ℕ)) (bytes : List ℕ) → Keeps old new
    → Keeps (prepend_known bytes old) (prepend_known bytes new)
kept_stream None new bytes kept = tt
kept_stream (Some old) None bytes kept = kept
kept_stream (Some old) (Some new) bytes kept = ap (λ t. bytes ++ t) kept

module _ {R : Type 0} (left : R → Option (List ℕ)) (reads : R → Option ℕ) where
  pub Reads-none : (r : R) (bytes : List ℕ) (budget : ℕ)
      → Reads left reads r r bytes bytes budget budget
  Reads-none r bytes budget =
      let none : budget - budget ≡ 0 = omega arith in
      record {
        same = Keeps-refl _;
        spent = omega arith;
        count = rw none (CountsBy-none (reads r));
        room = omega arith;
      }

  pub Reads-trans : {a b c : R} {x y z : List ℕ} {s t u : ℕ} → Reads left reads a b x y s t
      → Reads left reads b c y z t u → Reads left reads a c x z s u
  Reads-trans {s = s} {t = t} {u = u} first second = record {
    same = Keeps-trans _ _ _ first.same second.same;
    spent = omega (arith, first.spent, second.spent);
    count =
        CountsBy-trans (s - t) (t - u) (s - u) _ _ _ first.count second.count
        (omega (arith, first.spent, second.spent));
    room = omega (arith, first.room, second.room);
  }

  -- a read that put bytes behind those that were kept
  pub Reads-more : (old new : R) (before after more : List ℕ) (t u : ℕ) → length after ≤ INBOX_ROOM
      → CountsBy 1 (reads old) (reads new) → after ≡ before ++ more
      → Consumes (left old) (left new) more → 0 < t → u ≡ t - 1
      → Reads left reads old new before after t u
  Reads-more old new before after more t u fits counted is taken some less =
      let one : t - u ≡ 1 = omega arith in
      record {
        same = same_stream (left old) (left new) before more after is taken;
        spent = omega arith;
        count = rw one counted;
        room = omega (arith, fits);
      }

  -- a read that gave nothing
  pub Reads-nothing : (old new : R) (before after : List ℕ) (t u : ℕ) → length after ≤ INBOX_ROOM
      → CountsBy 1 (reads old) (reads new) → after ≡ before
      → Keeps (left old) (left new) → 0 < t → u ≡ t - 1
      → Reads left reads old new before after t u
  Reads-nothing old new before after t u fits counted is kept some less =
      let one : t - u ≡ 1 = omega arith in
      record {
        same = rw is (kept_stream (left old) (left new) before kept);
        spent = omega arith;
        count = rw one counted;
        room = omega (arith, fits);
      }

-- nothing was taken
pub Keeps-taken : (old new : Option (List ℕ)) (piece : List ℕ) (n : ℕ) → n ≡ 0
    → Consumes old new (take n piece) → Keeps old new
Keeps-taken None new piece n none taken = tt
Keeps-taken (Some old) None piece n none taken = absurd taken
Keeps-taken (Some old) (Some new) piece n none taken = sym (rw none at taken)

-- a part of a message that is short of so many bytes is one still with more
pub part-append : (count : ℕ) (bytes after piece : List ℕ) → after ≡ bytes ++ piece
    → ((more : List ℕ) → length (bytes ++ more) < count → IsPart (bytes ++ more))
    → (more : List ℕ) → length (after ++ more) < count → IsPart (after ++ more)
part-append count bytes after piece is part more short =
    let same : after ++ more ≡ bytes ++ (piece ++ more) = rw is (append_assoc bytes piece more) in
    rw same (part (piece ++ more) (rw same at short))

-- bytes that follow leave a message at the front
message-append : (bytes more : List ℕ) (m : WholeMessage) (rest : List ℕ) → HasMessage bytes m rest
    → HasMessage (bytes ++ more) m (rest ++ more)
message-append bytes more m rest x = record {
  begins = record {
    reads = (
      x.begins.reads.0,
      ap (λ t. t ++ more) x.begins.reads.1 ∙ append_assoc (print_request m.head) (m.body ++ rest) more
          ∙ ap (λ t. print_request m.head ++ t) (append_assoc m.body rest more),
    );
    few = x.begins.few;
    fits = x.begins.fits;
  };
  sound = x.sound;
  size = x.size;
}

-- what is said of the bytes that are kept and of the reader holds of the stream
says_first : (kept more : List ℕ) (budget : ℕ) (failed ended : Bool) (result : Result Layout Unread)
    → SaysOf kept budget failed ended (Some more) result → FirstIs (kept ++ more) kept result
says_first kept more budget failed ended (Ok layout) says =
    let whole = says.0 in
    let rest = drop-append-le layout.body.end kept more whole.3.content.1 in
    (whole.0, rw rest (message-append kept more whole.0 (drop layout.body.end kept) whole.1), whole.2)
says_first kept more budget failed ended (Err End) says = λ _. rw (says.0, says.2) refl
says_first kept more budget failed ended (Err Cut) says = λ _. rw (says.2, append-nil) says.0
says_first kept more budget failed ended (Err (Refused r head_only)) says = λ _. says.0 more
says_first kept more budget failed ended (Err ReadFault) says = λ is. absurd (cc)
says_first kept more budget failed ended (Err ReadsSpent) says = λ is. absurd (cc)

pub first_found : (old new : Option (List ℕ)) (before after : List ℕ) (budget : ℕ)
    (failed ended : Bool) (result : Result Layout Unread)
    → Keeps (prepend_known before old) (prepend_known after new)
    → SaysOf after budget failed ended new result
    → (stream : List ℕ) → prepend_known before old ≡ Some stream → FirstIs stream after result
first_found None new before after budget failed ended result same says stream is = absurd (cc)
first_found (Some old) None before after budget failed ended result same says stream is = absurd same
first_found (Some old) (Some new) before after budget failed ended result same says stream is =
    let whole : before ++ old ≡ stream = cc in
    subst (λ (s : List ℕ). FirstIs s after result) (same ∙ whole) (says_first after new budget failed ended result says)
