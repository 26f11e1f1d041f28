-- Where the parts of a message are in the bytes that begin with it.
use Rattle.std.specs.Prelude.{◌≡◌, ℕ, ◌+◌, ◌<◌, ◌≤◌, List, ◌++◌, length, drop, IfSome}
use Rattle.std.specs.Option.{option_map}
use Rattle.httparse.specs.Grammar.{print_request}
use Rattle.httparse.specs.Spans.{IsWithin, span_bytes}
use Rattle.room_http_messages.specs.declared.limits.TheConstants.{INBOX_ROOM}
use Rattle.room_http_messages.specs.declared.messages.Layout.{Layout}
use Rattle.room_http_messages.specs.declared.messages.Message.{Message}
use Rattle.room_http_messages.specs.declared.message_prefixes.MessagePrefix.{MessagePrefix}
use Rattle.room_http_messages.specs.declared.message_prefixes.MessagePrefix.TheVariants.{Whole}
use Rattle.room_http_messages.specs.declared.message_prefixes.MessagePrefix.TheVariants.{Refused}
use Rattle.room_http_messages.specs.declared.message_prefixes.MessagePrefix.TheVariants.{Needs}
use Rattle.room_http_messages.specs.Messages.{WholeMessage, is_head, closes, terminal_of}
use Rattle.room_http_messages.specs.Messages.{HasMessage, IsRefused, IsPart}

-- the parts of a message that is in the bytes
pub record IsLayout (bytes : List ℕ) (layout : Layout) (m : WholeMessage) : Type 0 where
  pub method : span_bytes bytes layout.method ≡ m.head.method
  pub target : span_bytes bytes layout.target ≡ m.head.target
  pub content : span_bytes bytes layout.body ≡ m.body
  pub terminal : option_map (span_bytes bytes) layout.terminal ≡ terminal_of m.head
  pub head_only : layout.head_only ≡ is_head m.head.method
  pub closing : layout.closing ≡ closes m.head
  pub end : layout.body.end ≡ length (print_request m.head) + length m.body
  pub some : 0 < layout.body.end

-- each part lies in the first n bytes
pub record LiesWithin (n : ℕ) (layout : Layout) : Type 0 where
  pub method : IsWithin n layout.method
  pub target : IsWithin n layout.target
  pub content : IsWithin n layout.body
  pub terminal : IfSome layout.terminal (IsWithin n)

-- what is shown of a message
pub record Shows (shown : Message) (m : WholeMessage) : Type 0 where
  pub method : shown.method.now ≡ m.head.method
  pub target : shown.target.now ≡ m.head.target
  pub content : shown.body.now ≡ m.body
  pub terminal : option_map (λ t. t.now) shown.terminal ≡ terminal_of m.head
  pub head_only : shown.head_only ≡ is_head m.head.method
  pub closing : shown.closing ≡ closes m.head

-- the bytes begin with the message that has this layout
abbrev pub IsWhole : List ℕ → Layout → Type 0
IsWhole bytes layout =
    (m : WholeMessage) × HasMessage bytes m (drop layout.body.end bytes) × IsLayout bytes layout m
    × LiesWithin (length bytes) layout

-- What a look at the first bytes of a stream says of it, whatever bytes follow: the message at its
-- front, the refusal, or the number of bytes below which it stays a part of a message.
abbrev pub LookIs : List ℕ → MessagePrefix → Type 0
LookIs bytes (Whole layout) = IsWhole bytes layout
LookIs bytes (Refused r head_only) = (more : List ℕ) → IsRefused (bytes ++ more) r head_only
LookIs bytes (Needs count) =
    (length bytes < count) × (count ≤ INBOX_ROOM)
    × ((more : List ℕ) → length (bytes ++ more) < count → IsPart (bytes ++ more))
