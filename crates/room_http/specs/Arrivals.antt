-- What is answered on a connection: the messages of its stream, and what is refused in the place of
-- one.
use Rattle.std.specs.Prelude.{◌≡◌, ◌≤◌, ⊤, ℕ, List, [], ◌∷◌, length, Bool, true}
use Rattle.room_types.specs.declared.refusal_statuses.Refusal.{Refusal}
use Rattle.room_http_messages.specs.declared.limits.TheConstants.{INBOX_ROOM}
use Rattle.room_http_messages.specs.Layouts.{Shows}
use Rattle.room_http_messages.specs.Messages.{WholeMessage, is_head, closes, HasMessage, IsRefused}
use Rattle.room_http.specs.declared.arrivals.Arrived.{Arrived}
use Rattle.room_http.specs.declared.arrivals.Arrived.TheVariants.{Message, Refused}

-- a message, or a refusal and whether the answer has no content
pub data Arrival : Type 0 where
  message : WholeMessage → Arrival
  refused : Refusal → Bool → Arrival

-- the answer has no content
abbrev pub is_head_only : Arrival → Bool
is_head_only (message m) = is_head m.head.method
is_head_only (refused r head_only) = head_only

-- the connection closes after the answer
abbrev pub is_closing : Arrival → Bool
is_closing (message m) = closes m.head
is_closing (refused r head_only) = true

-- the stream begins with the arrival, and rest follows; what is refused is left where it is
abbrev pub BeginsWith : List ℕ → Arrival → List ℕ → Type 0
BeginsWith stream (message m) rest = HasMessage stream m rest
BeginsWith stream (refused r head_only) rest = IsRefused stream r head_only × (rest ≡ stream)

-- the stream begins with these arrivals, of which only the last may close, and rest follows
abbrev pub Begins : List ℕ → List Arrival → List ℕ → Type 0
Begins stream [] rest = stream ≡ rest
Begins stream (o ∷ more) rest =
    (next : List ℕ) × BeginsWith stream o next × (is_closing o ≡ true → more ≡ [])
    × Begins next more rest

-- the stream begins with the arrival
abbrev pub HasNext : Arrival → List ℕ → Type 0
HasNext o stream = (next : List ℕ) × BeginsWith stream o next

-- the bytes are this message and nothing more
pub record IsJustMessage (bytes : List ℕ) (m : WholeMessage) : Type 0 where
  pub whole : HasMessage bytes m []
  pub some : 1 ≤ length bytes
  pub fits : length bytes ≤ INBOX_ROOM

-- what is shown of an arrival: of a message also its bytes
abbrev pub IsShown : Arrived → Arrival → Type 0
IsShown (Message shown bytes) (message m) = Shows shown m × IsJustMessage bytes.now m
IsShown (Message shown bytes) (refused r head_only) = ⊥
IsShown (Refused r head_only) (message m) = ⊥
IsShown (Refused r head_only) (refused s without) = (r ≡ s) × (head_only ≡ without)

-- the bytes of a message are some, and no more than the longest has
abbrev pub IsBounded : Arrived → Type 0
IsBounded (Message shown bytes) = (1 ≤ length bytes.now) × (length bytes.now ≤ INBOX_ROOM)
IsBounded (Refused r head_only) = ⊤
