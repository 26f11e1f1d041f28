-- A stream that is served in pieces.
use Rattle.std.specs.Prelude.{◌≡◌, ◌⊎◌, ◌≤◌, ◌-◌, ◌&&◌, ◌||◌, ◌==◌, ℕ, List, [], ◌++◌, Bool, true}
use Rattle.std.specs.Prelude.{false, not, if◌then◌else◌, All, length, min, take, Option, None, Some}
use Rattle.std.specs.Prelude.{IfSome, is_none, is_some, MatchOption, Result, Ok, IfOk}
use Rattle.room_http_messages.specs.declared.limits.TheConstants.{INBOX_ROOM}
use Rattle.room_http_messages.specs.declared.read_faults.Unread.{Unread}
use Rattle.room_http_messages.specs.Messages.{EndsWith, Splits, WholeMessage, closes}
use Rattle.dispatch_room_sockets.specs.declared.pieces.PieceReader.{PieceReader}
use Rattle.dispatch_room_sockets.specs.Lookaheads.{StaysInFront}
use Rattle.dispatch_room_sockets.specs.declared.lookaheads.Lookahead.{Lookahead}
use Rattle.dispatch_room_sockets.specs.declared.lookaheads.Lookahead.TheVariants.{End, Last}
use Rattle.dispatch_room_sockets.specs.declared.lookaheads.Lookahead.TheVariants.{Nothing, Part}
use Rattle.dispatch_room_sockets.specs.declared.lookaheads.Lookahead.TheVariants.{Whole}

-- What was read ahead is given first, as many of its bytes as have room, and the others stay ahead.
-- Where nothing was read ahead, nothing is after it either.
abbrev pub GivesAhead : {E : Type 0} → List ℕ → List ℕ → Result ℕ E → List ℕ → Type 0
GivesAhead old new result buf = ((old ≡ []) × (new ≡ []))
    ⊎ ((n : ℕ) × (result ≡ Ok n) × (n ≡ min (length old) (length buf)) × (old ≡ take n buf ++ new))

-- So many bytes are given of what stands ahead: of a request that is whole its own, and of what is
-- refused or can't be whole any more all that comes. Of a part all that comes is given where the
-- piece begins with it, as its time is over then. Else the piece ends before it.
abbrev pub given_of : Lookahead → Bool → Option ℕ
given_of (Whole size) is_first = Some size
given_of Last is_first = Some 18446744073709551615
given_of End is_first = Some 18446744073709551615
given_of Part true = Some 18446744073709551615
given_of Part false = None
given_of Nothing is_first = None

-- so much of what stands ahead is left to be given, or the piece ends before it
abbrev pub Begins : Lookahead → Bool → ℕ → Bool → Type 0
Begins ahead is_first left true = given_of ahead is_first ≡ Some left
Begins ahead is_first left false = given_of ahead is_first ≡ None

-- So much is left to be given before a read with so much room: where that is all the room for a
-- request, the read begins one, or the piece ends before it.
abbrev pub left_at : ℕ → Lookahead → Bool → ℕ → Option ℕ
left_at room ahead is_first left = if room == INBOX_ROOM then given_of ahead is_first else Some left

-- A read of a piece with so much room gave this. Where the piece ends before what stands ahead, it
-- pauses, and nothing is given: only so it pauses. Else no more is given than is left. Once a
-- request has begun, the next isn't the first any more. Its caller keeps its number.
abbrev pub IsPieceRead : {E C T : Type 0} → ℕ → PieceReader C T → PieceReader C T → Result ℕ E
    → Type 0
IsPieceRead room old new given =
    let left = left_at room new.kept.caller.ahead old.is_first old.left in
    (new.is_paused ≡ (old.is_paused || is_none left))
    × (is_none left ≡ true → given ≡ Ok 0)
    × IfSome left (λ most. IfOk given (λ n. (n ≤ most) × (new.left ≡ most - n)))
    × (new.is_first ≡ (old.is_first && not ((room == INBOX_ROOM) && is_some left)))
    × (new.kept.number ≡ old.kept.number)

-- What is given is the front of what was read ahead, and of what was read after it as a request was
-- to begin: as much as is left and has room. The others stay ahead, and where the piece pauses all.
abbrev pub GivesFront : {E C T : Type 0} → ℕ → PieceReader C T → PieceReader C T → Result ℕ E
    → List ℕ → Type 0
GivesFront room old new given buf =
    let before = old.kept.caller.unserved in
    let after = new.kept.caller.unserved in
    MatchOption (left_at room new.kept.caller.ahead old.is_first old.left)
    (StaysInFront before after)
    (λ most. (bytes : List ℕ) × StaysInFront before bytes
    × GivesAhead bytes after given (take most buf))

-- none of these messages closes its connection
abbrev pub StayOpen : List WholeMessage → Type 0
StayOpen messages = All (λ m. closes m.head ≡ false) messages

-- A piece that is whole messages, of which none closes, and the piece after it: together they are
-- the messages of the one and then those of the other, and no others, however far they are read.
abbrev pub AreJoined : Type 0
AreJoined =
    (piece next rest : List ℕ) (first second : List WholeMessage)
    → Splits piece first [] → StayOpen first → Splits next second rest
    → Splits (piece ++ next) (first ++ second) rest
    × ((all : List WholeMessage) (left : List ℕ) (e f : Unread) → Splits (piece ++ next) all left
    → EndsWith left e → EndsWith rest f → (all ≡ first ++ second) × (left ≡ rest))
