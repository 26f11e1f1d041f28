-- Lemmas on what is read of a stream.
use Rattle.std.proofs.Common.{◌≡◌, ◌∙◌, ap, sym, subst, refl, arith, ℕ, ◌+◌, ◌-◌, ◌<◌, ◌≤◌, List}
use Rattle.std.proofs.Common.{[], ◌∷◌, ◌++◌, drop, length, take, length-append, length-drop}
use Rattle.std.proofs.Common.{length-take-le, map, append-nil, append_assoc, Bool, false, Option}
use Rattle.std.proofs.Common.{Some, None, Result, Ok, Err, All}
use Rattle.std.proofs.lemmas.List.{take_at}
use Rattle.std.proofs.lemmas.List.Elements.{All-head, All-tail}
use Rattle.std.specs.Prelude.{IfOk}
use Rattle.std.specs.Io.KnownBytes.{prepend_known, Keeps, IsAtEnd}
use Rattle.httparse.specs.Grammar.{print_request}
use Rattle.room_types.specs.declared.refusal_statuses.Refusal.{Refusal}
use Rattle.room_http_messages.specs.declared.limits.TheConstants.{INBOX_ROOM}
use Rattle.room_http_messages.specs.declared.messages.Layout.{Layout}
use Rattle.room_http_messages.specs.Layouts.{IsLayout, IsWhole}
use Rattle.room_http_messages.specs.Messages.{WholeMessage, HasMessage, IsRefused}
use Rattle.room_http_messages.specs.Streams.{CountsBy}
use Rattle.room_http_messages.specs.declared.read_faults.Unread.{Unread}
use Rattle.room_http_messages.specs.declared.read_faults.Unread.TheVariants.{End, Cut, ReadFault}
use Rattle.room_http_messages.specs.declared.read_faults.Unread.TheVariants.{ReadsSpent, Refused}
use Rattle.room_http_messages.specs.Readings.{SaysOf}
use Rattle.room_http.specs.declared.arrivals.Arrived.{Arrived}
use Rattle.room_http.specs.declared.arrivals.Arrived.TheVariants.{Message, Refused as Shut}
use Rattle.room_http.specs.Arrivals.{Arrival, message, refused, is_closing, BeginsWith, Begins}
use Rattle.room_http.specs.Arrivals.{IsJustMessage, IsBounded, IsShown}
use Rattle.room_http.specs.ConnectionReads.{IsReadAs, kept_after}

pub CountsBy-none : (known : Option ℕ) → CountsBy 0 known known
CountsBy-none None = refl
CountsBy-none (Some n) = omega arith

pub CountsBy-trans : (j k m : ℕ) (a b c : Option ℕ) → CountsBy j a b → CountsBy k b c → m ≡ j + k
    → CountsBy m a c
CountsBy-trans j k m None None c first second is = second
CountsBy-trans j k m None (Some n) c first second is = absurd (cc)
CountsBy-trans j k m (Some n) None None first second is = tt
CountsBy-trans j k m (Some n) None (Some x) first second is = absurd (cc)
CountsBy-trans j k m (Some n) (Some x) None first second is = tt
CountsBy-trans j k m (Some n) (Some x) (Some y) first second is = omega arith

-- bytes that follow leave a message at the front
message-append : (bytes more : List ℕ) (m : WholeMessage) (rest : List ℕ) → HasMessage bytes m rest
    → HasMessage (bytes ++ more) m (rest ++ more)
message-append bytes more m rest x = record {
  begins = record {
    reads = (
      x.begins.reads.0,
      ap (λ t. t ++ more) x.begins.reads.1 ∙ append_assoc (print_request m.head) (m.body ++ rest) more
          ∙ ap (λ t. print_request m.head ++ t) (append_assoc m.body rest more),
    );
    few = x.begins.few;
    fits = x.begins.fits;
  };
  sound = x.sound;
  size = x.size;
}

-- what is left after an arrival was taken, and before
pub record Passes (before after : Option (List ℕ)) (o : Arrival) : Type 0 where
  pub passes : (rest : List ℕ) → before ≡ Some rest
      → (next : List ℕ) × BeginsWith rest o next × (after ≡ Some next)

-- the message at the front of the inbox is the next of the stream
pub message_passes : (kept after : List ℕ) (left : Option (List ℕ)) (m : WholeMessage) (n : ℕ)
    → HasMessage kept m (drop n kept) → after ≡ drop n kept
    → Passes (prepend_known kept left) (prepend_known after left) (message m)
message_passes kept after None m n has is = record { passes = λ rest known. absurd (cc) }
message_passes kept after (Some left) m n has is = record {
  passes = λ rest known.
      let same : kept ++ left ≡ rest = cc in (
        drop n kept ++ left,
        subst (λ (s : List ℕ). HasMessage s m (drop n kept ++ left)) same
            (message-append kept left m (drop n kept) has),
        rw is refl,
      );
}

-- the bytes of the message at the front are that message and nothing more
pub just_message : (kept bytes : List ℕ) (layout : Layout) (m : WholeMessage)
    → HasMessage kept m (drop layout.body.end kept) → IsLayout kept layout m
    → layout.body.end ≤ length kept → bytes ≡ kept → length bytes ≤ INBOX_ROOM
    → IsJustMessage (take layout.body.end bytes) m
just_message kept bytes layout m has is within same fits =
    let n = layout.body.end in
    let rest = drop n kept in
    let size : length (print_request m.head ++ m.body) ≡ n = length-append (print_request m.head) m.body ∙ sym is.end in
    let whole : take n bytes ≡ print_request m.head ++ (m.body ++ []) =
    ap (take n) (same ∙ has.begins.reads.1 ∙ sym (append_assoc (print_request m.head) m.body rest))
    ∙ take_at (print_request m.head ++ m.body) rest n size
    ∙ ap (λ t. print_request m.head ++ t) (sym (append-nil m.body)) in
    let many : length (take n bytes) ≡ n = length-take-le n bytes (rw same within) in
    record {
      whole = record {
        begins = record { reads = (has.begins.reads.0, whole); few = has.begins.few; fits = has.begins.fits };
        sound = has.sound;
        size = has.size;
      };
      some = omega (arith, many, is.some);
      fits = omega (arith, many, within, fits, ap length same);
    }

-- what is refused at the front of the inbox is refused in the stream
pub refusal_passes : (kept : List ℕ) (left : Option (List ℕ)) (r : Refusal) (head_only : Bool)
    → ((more : List ℕ) → IsRefused (kept ++ more) r head_only)
    → Passes (prepend_known kept left) (prepend_known kept left) (refused r head_only)
refusal_passes kept None r head_only is = record { passes = λ rest known. absurd (cc) }
refusal_passes kept (Some left) r head_only is = record {
  passes = λ rest known.
      let same : kept ++ left ≡ rest = cc in
      (rest, (subst (λ (s : List ℕ). IsRefused s r head_only) same (is left), refl), ap Some same);
}

-- the bytes that are kept and those to come, once what was read was answered
pub read_passes : (kept : List ℕ) (left : Option (List ℕ)) (granted : ℕ) (failed ended : Bool)
    (read : Result Layout Unread) (o : Arrival) → SaysOf kept granted failed ended left read
    → IsReadAs kept read o
    → Passes (prepend_known kept left) (prepend_known (kept_after kept read) left) o
read_passes kept left granted failed ended (Ok layout) (message m) says is =
    message_passes kept (drop layout.body.end kept) left m layout.body.end is refl
read_passes kept left granted failed ended (Ok layout) (refused r head_only) says is = absurd is
read_passes kept left granted failed ended (Err (Refused r head_only)) o says is =
    rw is (refusal_passes kept left r head_only says.0)
read_passes kept left granted failed ended (Err End) o says is = absurd is
read_passes kept left granted failed ended (Err Cut) o says is = absurd is
read_passes kept left granted failed ended (Err ReadFault) o says is = absurd is
read_passes kept left granted failed ended (Err ReadsSpent) o says is = absurd is

-- where serving goes on after it, no read failed, and fewer bytes are kept
pub read_goes_on : (kept : List ℕ) (left : Option (List ℕ)) (granted : ℕ) (failed ended : Bool)
    (read : Result Layout Unread) (o : Arrival) → SaysOf kept granted failed ended left read
    → IsReadAs kept read o
    → is_closing o ≡ false → (failed ≡ false) × (length (kept_after kept read) < length kept)
read_goes_on kept left granted failed ended (Ok layout) o says is goes =
    let within = says.0.3.content.1 in
    (says.1, omega (arith, length-drop layout.body.end kept, says.0.2.some, within))
read_goes_on kept left granted failed ended (Err (Refused r head_only)) o says is goes = absurd (cc)
read_goes_on kept left granted failed ended (Err End) o says is goes = absurd is
read_goes_on kept left granted failed ended (Err Cut) o says is goes = absurd is
read_goes_on kept left granted failed ended (Err ReadFault) o says is goes = absurd is
read_goes_on kept left granted failed ended (Err ReadsSpent) o says is goes = absurd is

-- what stays open is a message
pub open_is_message : (kept : List ℕ) (read : Result Layout Unread) (o : Arrival)
    → IsReadAs kept read o → is_closing o ≡ false → (layout : Layout) × (read ≡ Ok layout)
open_is_message kept (Ok layout) o is goes = (layout, refl)
open_is_message kept (Err (Refused r head_only)) o is goes = absurd (cc)
open_is_message kept (Err End) o is goes = absurd is
open_is_message kept (Err Cut) o is goes = absurd is
open_is_message kept (Err ReadFault) o is goes = absurd is
open_is_message kept (Err ReadsSpent) o is goes = absurd is

-- where a message was read, it is whole
pub read_whole : (kept : List ℕ) (left : Option (List ℕ)) (granted : ℕ) (failed ended : Bool)
    (read : Result Layout Unread) → SaysOf kept granted failed ended left read
    → IfOk read (IsWhole kept)
read_whole kept left granted failed ended (Ok layout) says = says.0
read_whole kept left granted failed ended (Err e) says = tt

-- what is shown has bounds
pub shown_bounded : (arrived : Arrived) (o : Arrival) → IsShown arrived o → IsBounded arrived
shown_bounded (Message shown bytes) (message m) is = (is.1.some, is.1.fits)
shown_bounded (Message shown bytes) (refused r head_only) is = absurd is
shown_bounded (Shut r head_only) o is = tt

-- the stream that is left, at its end
pub nothing_left : (kept : List ℕ) (left : Option (List ℕ)) (rest : List ℕ) → IsAtEnd left
    → prepend_known kept left ≡ Some rest → rest ≡ kept
nothing_left kept None rest end known = absurd (cc)
nothing_left kept (Some left) rest end known =
    let same : kept ++ left ≡ rest = cc in
    sym same ∙ ap (λ t. kept ++ t) end ∙ append-nil kept

-- one arrival more, after those that stay open
pub Begins-push : (stream : List ℕ) (outs : List (Arrival × ℕ)) (rest : List ℕ) (x : Arrival × ℕ)
    (next : List ℕ)
    → Begins stream (map (λ y. y.0) outs) rest → All (λ y. is_closing y.0 ≡ false) outs
    → BeginsWith rest x.0 next
    → Begins stream (map (λ y. y.0) (outs ++ x ∷ [])) next
Begins-push stream [] rest x next begins stay has = (next, rw begins has, λ _. refl, refl)
Begins-push stream (y ∷ more) rest x next begins stay has =
    let open_ = All-head (λ (z : Arrival × ℕ). is_closing z.0 ≡ false) y more stay in (
      begins.0,
      begins.1,
      λ ends. absurd (cc),
      Begins-push begins.0 more rest x next begins.3
          (All-tail (λ (z : Arrival × ℕ). is_closing z.0 ≡ false) y more stay) has,
    )

-- the bytes to come, with none in the inbox
pub Keeps-prepend : (bytes : List ℕ) (left : Option (List ℕ)) → bytes ≡ []
    → Keeps left (prepend_known bytes left)
Keeps-prepend bytes None none = tt
Keeps-prepend bytes (Some left) none = rw none refl

-- the reads so far, with those of one call more
pub reads_by : (budget before after : ℕ) (a b c : Option ℕ) → before ≤ budget → after ≤ before
    → CountsBy (budget - before) a b → CountsBy (before - after) b c
    → CountsBy (budget - after) a c
reads_by budget before after a b c within fewer first second =
    CountsBy-trans (budget - before) (before - after) (budget - after) a b c first second (omega arith)
