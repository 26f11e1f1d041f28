-- What the stream decides by itself, however it was cut into pieces.
use Rattle.std.specs.Prelude.{◌≡◌, ℕ, ◌≤◌, List, ◌++◌, length}
use Rattle.room_http_messages.specs.declared.read_faults.Unread.{Unread}
use Rattle.room_http_messages.specs.Messages.{WholeMessage, HasMessage, EndsWith, Splits}

-- a stream begins with at most one message
abbrev pub IsOneMessage : Type 0
IsOneMessage =
    (stream : List ℕ) (m n : WholeMessage) (rest left : List ℕ) → HasMessage stream m rest
    → HasMessage stream n left
    → (m ≡ n) × (rest ≡ left)

-- a stream that begins with a message doesn't end there
abbrev pub IsNoEnd : Type 0
IsNoEnd = (stream : List ℕ) (m : WholeMessage) (rest : List ℕ) (e : Unread)
    → HasMessage stream m rest → ¬ (EndsWith stream e)

-- of two lists of messages that a stream splits into, the shorter begins the longer
abbrev pub IsOneSplit : Type 0
IsOneSplit =
    (stream : List ℕ) (few many : List WholeMessage) (rest left : List ℕ)
    → Splits stream few rest → Splits stream many left → length few ≤ length many
    → (more : List WholeMessage) × (many ≡ few ++ more) × Splits rest more left

-- a stream that is read to an end has the messages that it has in each such reading
abbrev pub IsOneReading : Type 0
IsOneReading =
    (stream : List ℕ) (first second : List WholeMessage) (rest left : List ℕ) (e f : Unread)
    → Splits stream first rest → EndsWith rest e → Splits stream second left → EndsWith left f
    → (first ≡ second) × (rest ≡ left)
