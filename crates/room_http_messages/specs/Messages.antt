-- The messages that a stream of bytes holds, and how it ends.
use Rattle.std.specs.Prelude.{◌≡◌, ℕ, ◌<◌, ◌≤◌, List, [], ◌∷◌, ◌++◌, length, take, codes, Bool}
use Rattle.std.specs.Prelude.{true, false, bytes_eq, Option, Some, None}
use Rattle.httparse.specs.Grammar.{RequestHead, print_request, ReadsRequest, HasNoRequest}
use Rattle.httparse.specs.Grammar.{MayBecomeRequest}
use Rattle.httparse.specs.Spans.{RequestOverflows}
use Rattle.room_types.specs.declared.refusal_statuses.Refusal.{Refusal}
use Rattle.room_types.specs.declared.refusal_statuses.Refusal.TheVariants.{BadMessage, HeadTooLong}
use Rattle.room_http_messages.specs.declared.limits.TheConstants.{HEAD_LIMIT, FIELD_LIMIT}
use Rattle.room_http_messages.specs.declared.read_faults.Unread.{Unread}
use Rattle.room_http_messages.specs.declared.read_faults.Unread.TheVariants.{End, Cut, ReadFault}
use Rattle.room_http_messages.specs.declared.read_faults.Unread.TheVariants.{ReadsSpent, Refused}
use Rattle.room_http_messages.specs.HeadFields.{values_of, only_value}
use Rattle.room_http_messages.specs.ConnectionOptions.{is_closing}
use Rattle.room_http_messages.specs.Rules.{head_fields, fault_of, body_length}

-- a message as it was sent
pub record WholeMessage : Type 0 where
  pub head : RequestHead
  pub body : List ℕ

-- the method is HEAD, so that the answer has no content
abbrev pub is_head : List ℕ → Bool
is_head method = bytes_eq method (codes "HEAD")

-- the connection closes after the answer
abbrev pub closes : RequestHead → Bool
closes h = is_closing h.minor (head_fields h)

-- the value of the only X-Terminal field, none where there is no such field or more than one
abbrev pub terminal_of : RequestHead → Option (List ℕ)
terminal_of h = only_value (values_of (codes "x-terminal") (head_fields h))

-- the bytes in a head's place: no head ends after them
unfoldable pub window : List ℕ → List ℕ
window stream = take HEAD_LIMIT stream

-- the stream begins with a complete head within the limits, and rest follows
pub record HasHead (stream : List ℕ) (h : RequestHead) (rest : List ℕ) : Type 0 where
  pub reads : ReadsRequest stream h rest
  pub few : length h.fields ≤ FIELD_LIMIT
  pub fits : length (print_request h) ≤ HEAD_LIMIT

-- the stream begins with a message: a head that breaks no rule, and as many bytes as it announces
pub record HasMessage (stream : List ℕ) (m : WholeMessage) (rest : List ℕ) : Type 0 where
  pub begins : HasHead stream m.head (m.body ++ rest)
  pub sound : fault_of m.head.minor (head_fields m.head) ≡ None
  pub size : length m.body ≡ body_length (head_fields m.head)

-- no head stands in its place, and bytes may follow that make one
pub record HasPartHead (stream : List ℕ) : Type 0 where
  pub none : HasNoRequest (window stream)
  pub may : MayBecomeRequest (window stream)

-- The stream begins with what is refused, and whether the answer has no content. `no_head`: no head
-- of few enough fields continues the bytes in its place. Where also `HasPartHead` holds, since
-- these bytes end within a target that no head continues or begin a field too many, either refusal
-- may come, and `IsCut` may hold.
pub data IsRefused (stream : List ℕ) : Refusal → Bool → Type 0 where
  no_head : RequestOverflows FIELD_LIMIT (window stream) → IsRefused stream BadMessage false
  too_long : HEAD_LIMIT ≤ length stream → HasPartHead stream → IsRefused stream HeadTooLong false
  by_rule : (h : RequestHead) (rest : List ℕ) (r : Refusal) → HasHead stream h rest
      → fault_of h.minor (head_fields h) ≡ Some r → IsRefused stream r (is_head h.method)

-- the stream has less than a message: nothing, a part of a head, or a head that breaks no rule and
-- a part of its body
pub data IsPart (stream : List ℕ) : Type 0 where
  in_head : length stream < HEAD_LIMIT → HasPartHead stream → IsPart stream
  in_body : (h : RequestHead) (part : List ℕ) → HasHead stream h part
      → fault_of h.minor (head_fields h) ≡ None → length part < body_length (head_fields h)
      → IsPart stream

-- the stream ends within a message
abbrev pub IsCut : List ℕ → Type 0
IsCut stream = (0 < length stream) × IsPart stream

-- the stream is these messages, of which only the last may close, and then rest
abbrev pub Splits : List ℕ → List WholeMessage → List ℕ → Type 0
Splits stream [] rest = stream ≡ rest
Splits stream (m ∷ more) rest =
    (next : List ℕ) × HasMessage stream m next × (closes m.head ≡ true → more ≡ [])
    × Splits next more rest

-- how a whole stream ends, by what follows its messages
abbrev pub EndsWith : List ℕ → Unread → Type 0
EndsWith rest End = rest ≡ []
EndsWith rest Cut = IsCut rest
EndsWith rest (Refused r head_only) = IsRefused rest r head_only
EndsWith rest ReadFault = ⊥
EndsWith rest ReadsSpent = ⊥
