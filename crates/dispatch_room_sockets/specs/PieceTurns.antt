-- Who is given at a door to be served, and what becomes of them after it.
use Rattle.std.specs.Prelude.{◌≡◌, ◌⊎◌, ◌+◌, ◌<◌, ◌==◌, ℕ, List, [], ◌∷◌, Bool, true, false, length}
use Rattle.std.specs.Prelude.{min, option_map, Option, None, Some, IfSome, IsSome, MatchOption}
use Rattle.std.specs.Duration.{as_nanos, max_nanos}
use Rattle.std.specs.declared.time.Duration.{Duration}
use Rattle.dispatch_room_sockets.specs.declared.acceptors.Client.{Client}
use Rattle.dispatch_room_sockets.specs.declared.entrances.Entrance.{Ghosts}
use Rattle.dispatch_room_sockets.specs.declared.kept_callers.Kept.{Kept}
use Rattle.dispatch_room_sockets.specs.declared.closing_connections.ClosingConnection.{ClosingConnection}
use Rattle.dispatch_room_sockets.specs.declared.waiting_callers.Waiting.{Waiting}
use Rattle.dispatch_room_sockets.specs.CallerHistories.{ComesBack, GivesNext}
use Rattle.dispatch_room_sockets.specs.Departures.{Departs}
use Rattle.dispatch_room_sockets.specs.Pauses.{IsLeast, limits}
use Rattle.dispatch_room_sockets.specs.Rounds.{Hears}
use Rattle.dispatch_room_sockets.specs.Turns.{WaitsAgain}

module _ {T : Type 0} where
  -- one whose moves are not reported any longer
  abbrev pub unwatched : Kept (Client T) → Kept (Client T)
  unwatched k = record k { caller = record k.caller { is_watched = false } }

  -- one that is looked at anew
  abbrev pub fresh : Client T → Client T
  fresh client = record client { is_fresh = true }

  -- nobody can be served for now: a clock can't be read, or there is no room for another who holds
  -- the stream of one
  abbrev pub IsHindered : (Option Duration → Type 0) → (T → Type 0) → Kept (Client T) → Type 0
  IsHindered shows is_full k = is_full k.caller.stream ⊎ shows None

  -- Where someone was to be served, nobody was looked at, and else all were. Then this one was
  -- given, and its moves are not reported any longer, or nobody was.
  pub record HearsPiece {E : Type 0} (g : Ghosts E (Client T)) (old new : Waiting E (Client T))
      (given : Option (Kept (Client T))) : Type 0
    where
      pub first : Option (Kept (Client T))
      pub is : given ≡ option_map unwatched first
      pub hears : Hears g old new first

  -- One is given to be served, or nobody is, and nobody is lost. Where some are to be served, the
  -- first of them is given and all others stay. Nobody is given only where nobody is to be served,
  -- also once all were looked at, or where the first of them can't be served for now: then all
  -- stay. For one who is given there is room to wait again.
  pub record GivesPiece (shows : Option Duration → Type 0) (is_full : T → Type 0)
      (line lines ready readied : List (Kept (Client T))) (next after : ℕ)
      (given : Option (Kept (Client T))) : Type 0
    where
      pub one : GivesNext line ready next lines readied after given
      pub first : (k : Kept (Client T)) (more : List (Kept (Client T))) → ready ≡ k ∷ more
          → (lines ≡ line)
          × MatchOption given (readied ≡ ready) (λ it. (it ≡ unwatched k) × (readied ≡ more))
      pub nobody : given ≡ None
          → (readied ≡ [])
          ⊎ ((k : Kept (Client T)) × (more : List (Kept (Client T))) × (readied ≡ k ∷ more)
          × IsHindered shows is_full k)
      pub room : IsSome given → length lines + length readied < 1024

  -- A turn begins at the moment that a clock shows. It goes on for 50 milliseconds, and where
  -- nobody else is to be served, while nobody else moves, until something is to be done for
  -- another.
  pub record BeginsTurn (shows : Option Duration → Type 0)
      (line ready : List (Kept (Client T))) (closing_connections : List (ClosingConnection (Client T)))
      (only_until turn_ends : Duration) : Type 0
    where
      pub now : Duration
      pub shown : shows (Some now)
      pub ends : as_nanos turn_ends ≡ min (as_nanos now + 50000000) max_nanos
      pub pause : ℕ
      pub only : as_nanos only_until ≡ min (as_nanos now + pause) max_nanos
      pub beside : (length ready == 0) ≡ false → pause ≡ 0
      pub single : (length ready == 0) ≡ true
          → IsLeast pause (limits now (λ c. c.is_watched) line closing_connections)

  -- One was served, and got an answer that may be waited for until a moment, or got none. It waits
  -- again where its piece ended and its stream may go on. Else it is parted from, where no read of
  -- it failed or found the end and its writing side can be shut. Who got no answer is dropped.
  pub record TakesBack (shows : Option Duration → Type 0) (is_stuck : T → Type 0)
      (keep : Duration) (it : Kept (Client T)) (is_paused is_open : Bool)
      (answered : Option Duration) (line lines ready : List (Kept (Client T))) (next : ℕ)
      (closing_connections more : List (ClosingConnection (Client T))) : Type 0
    where
      pub back : ComesBack it.number line lines ready next
      pub dropped : answered ≡ None → (lines ≡ line) × (more ≡ closing_connections)
      pub waits : is_paused ≡ true → more ≡ closing_connections
      pub again : is_paused ≡ true → IfSome answered (λ _. length line + length ready < 1024
          → WaitsAgain shows keep it.number (fresh it.caller) line lines)
      pub parted : is_paused ≡ false → lines ≡ line
      pub departs : is_paused ≡ false → IfSome answered (λ until. is_open ≡ true
          → ((more ≡ closing_connections) × is_stuck it.caller.stream)
          ⊎ Departs shows (fresh it.caller) until closing_connections more)
