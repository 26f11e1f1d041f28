-- What stands ahead in a stream.
use Rattle.std.specs.Prelude.{◌≡◌, ◌⊎◌, ◌<◌, ◌≤◌, ℕ, List, [], ◌++◌, Bool, true, false, length}
use Rattle.std.specs.Prelude.{Option, Result, Ok, Err}
use Rattle.std.specs.Io.KnownBytes.{IsAtEnd}
use Rattle.room_http_messages.specs.declared.limits.TheConstants.{INBOX_ROOM}
use Rattle.room_types.specs.declared.refusal_statuses.Refusal.{Refusal}
use Rattle.room_http_messages.specs.declared.messages.Layout.{Layout}
use Rattle.room_http_messages.specs.Layouts.{IsWhole}
use Rattle.room_http_messages.specs.Messages.{IsPart, IsRefused}
use Rattle.dispatch_room_sockets.specs.declared.lookaheads.Lookahead.{Lookahead}
use Rattle.dispatch_room_sockets.specs.declared.lookaheads.Lookahead.TheVariants as ahead
use Rattle.dispatch_room_sockets.specs.declared.nonblocking_streams.NoBytes.{NoBytes}
use Rattle.dispatch_room_sockets.specs.declared.nonblocking_streams.NoBytes.TheVariants.{Ever, Yet}
use Rattle.dispatch_room_sockets.specs.declared.kept_callers.Heard.{Heard}
use Rattle.dispatch_room_sockets.specs.declared.kept_callers.Heard.TheVariants as heard

-- these bytes are refused, whatever follows
abbrev pub AreRefused : List ℕ → Type 0
AreRefused bytes = (refusal : Refusal) × (head_only : Bool)
    × ((more : List ℕ) → IsRefused (bytes ++ more) refusal head_only)

-- What the bytes at the front of a stream are, that has ended after them or may go on: a request
-- that is whole and so many bytes long, what is refused or can't be whole any more, or a part. Or
-- there are none.
abbrev pub LookaheadIs : Type 0 → Type 0 → List ℕ → Lookahead → Type 0
LookaheadIs has_ended goes_on bytes (ahead.Whole size) =
    (layout : Layout) × IsWhole bytes layout × (size ≡ layout.body.end)
LookaheadIs has_ended goes_on bytes ahead.Last = AreRefused bytes ⊎ (has_ended × IsPart bytes)
LookaheadIs has_ended goes_on bytes ahead.Part = goes_on × IsPart bytes
LookaheadIs has_ended goes_on bytes ahead.Nothing = goes_on × (bytes ≡ [])
LookaheadIs has_ended goes_on bytes ahead.End = has_ended × (bytes ≡ [])

-- A read of a stream gave its end, after these bytes: of a stream that is known nothing is left, if
-- there was room for more.
abbrev pub HasEnded : ℕ → (Result ℕ NoBytes → Type 0) → Option (List ℕ) → List ℕ → Type 0
HasEnded room gives left bytes =
    gives (Ok 0) × (0 < room → length bytes < INBOX_ROOM → IsAtEnd left)

-- nothing has come yet after these bytes, or there is no room for more
abbrev pub GoesOn : (Result ℕ NoBytes → Type 0) → List ℕ → Type 0
GoesOn gives bytes = gives (Err Yet) ⊎ (INBOX_ROOM ≤ length bytes)

-- These bytes were read of a stream, by way of so much room; its reads may give this, and this is
-- left of it where that is known. This is what they are, or the stream is lost.
abbrev pub StandsAhead : ℕ → (Result ℕ NoBytes → Type 0) → Option (List ℕ) → List ℕ → Lookahead
    → Type 0
StandsAhead room gives left bytes seen = ((seen ≡ ahead.End) × gives (Err Ever))
    ⊎ LookaheadIs (HasEnded room gives left bytes) (GoesOn gives bytes) bytes seen

-- what is heard of one in whose stream this stands ahead
abbrev pub heard_of : Lookahead → Heard
heard_of ahead.Nothing = heard.Nothing
heard_of ahead.Part = heard.Part
heard_of (ahead.Whole size) = heard.Whole
heard_of ahead.Last = heard.Whole
heard_of ahead.End = heard.Gone

-- more may come of it
abbrev pub may_grow : Lookahead → Bool
may_grow ahead.Nothing = true
may_grow ahead.Part = true
may_grow (ahead.Whole size) = false
may_grow ahead.Last = false
may_grow ahead.End = false

-- what was read ahead stays, in front of what was read after it
pub record StaysInFront (old new : List ℕ) : Type 0 where
  pub more : List ℕ
  pub grown : new ≡ old ++ more
