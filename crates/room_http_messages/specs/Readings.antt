-- What one call of `read_message` gives, and how it leaves the reader and the inbox.
use Rattle.std.specs.Prelude.{◌≡◌, ℕ, ◌+◌, List, [], ◌++◌, drop, Bool, true, false, Option, Some}
use Rattle.std.specs.Prelude.{Result, Ok, Err, MatchResult}
use Rattle.std.specs.Io.KnownBytes.{IsAtEnd, prepend_known}
use Rattle.room_http_messages.specs.declared.messages.Layout.{Layout}
use Rattle.room_http_messages.specs.declared.read_faults.Unread.{Unread}
use Rattle.room_http_messages.specs.declared.read_faults.Unread.TheVariants.{End, Cut, ReadFault}
use Rattle.room_http_messages.specs.declared.read_faults.Unread.TheVariants.{ReadsSpent, Refused}
use Rattle.room_http_messages.specs.Layouts.{IsLayout, IsWhole}
use Rattle.room_http_messages.specs.Messages.{WholeMessage, HasMessage, IsCut, IsPart, IsRefused}
use Rattle.room_http_messages.specs.Messages.{EndsWith}
use Rattle.room_http_messages.specs.Streams.{Reads}

-- Why reading stopped: what holds of the bytes in the inbox, of the budget and of the reader. Where
-- a read failed or the budget is used up, the bytes that were read are less than a message.
abbrev pub StopsAs : List ℕ → ℕ → Bool → Bool → Option (List ℕ) → Unread → Type 0
StopsAs bytes budget failed ended left End =
    (bytes ≡ []) × (ended ≡ true) × IsAtEnd left × (failed ≡ false)
StopsAs bytes budget failed ended left Cut =
    IsCut bytes × (ended ≡ true) × IsAtEnd left × (failed ≡ false)
StopsAs bytes budget failed ended left ReadFault = IsPart bytes × (failed ≡ true)
StopsAs bytes budget failed ended left ReadsSpent = IsPart bytes × (budget ≡ 0) × (failed ≡ false)
StopsAs bytes budget failed ended left (Refused r head_only) =
    ((more : List ℕ) → IsRefused (bytes ++ more) r head_only) × (failed ≡ false)

-- one read put bytes behind those that were kept, or nothing more was read
pub record ReadsOnce {R : Type 0} (left : R → Option (List ℕ)) (reads : R → Option ℕ)
    (has_failed has_ended : R → Bool)
    (old new : R) (before after : List ℕ) (budget_before budget_after : ℕ)
    (result : Result (Unit {0}) Unread) : Type 0 where
  pub read : Reads left reads old new before after budget_before budget_after
  pub says : MatchResult result
      (λ _. (budget_after + 1 ≡ budget_before) × ((more : List ℕ) × (after ≡ before ++ more))
      × (has_failed new ≡ false))
      (StopsAs after budget_after (has_failed new) (has_ended new) (left new))

-- the stream itself gave the reason, and not the reader or the budget
abbrev pub is_of_stream : Unread → Bool
is_of_stream End = true
is_of_stream Cut = true
is_of_stream (Refused r head_only) = true
is_of_stream ReadFault = false
is_of_stream ReadsSpent = false

-- what was found is what the stream begins with: its message, shown in the bytes that are kept, or
-- its end
abbrev pub FirstIs : List ℕ → List ℕ → Result Layout Unread → Type 0
FirstIs stream kept (Ok layout) =
    (m : WholeMessage) × HasMessage stream m (drop layout.body.end stream) × IsLayout kept layout m
FirstIs stream kept (Err e) = is_of_stream e ≡ true → EndsWith stream e

-- what the result says of the bytes in the inbox, of the budget and of the reader
abbrev pub SaysOf : List ℕ → ℕ → Bool → Bool → Option (List ℕ) → Result Layout Unread → Type 0
SaysOf bytes budget failed ended left (Ok layout) = IsWhole bytes layout × (failed ≡ false)
SaysOf bytes budget failed ended left (Err e) = StopsAs bytes budget failed ended left e

-- A call of `read_message`: the message is at the front of the inbox, or reading stopped. Where the
-- bytes of the stream are known, that is what it begins with, however it was cut into pieces.
pub record ReadsMessage {R : Type 0} (left : R → Option (List ℕ)) (reads : R → Option ℕ)
    (has_failed has_ended : R → Bool)
    (old new : R) (before after : List ℕ) (budget_before budget_after : ℕ)
    (result : Result Layout Unread) : Type 0 where
  pub read : Reads left reads old new before after budget_before budget_after
  pub says : SaysOf after budget_after (has_failed new) (has_ended new) (left new) result
  pub first : (stream : List ℕ) → prepend_known before (left old) ≡ Some stream
      → FirstIs stream after result
