-- Those who are parted from, and until when each of them is kept.
use Rattle.std.specs.Prelude.{◌≡◌, ◌⊎◌, ◌+◌, ◌≤◌, ◌||◌, ℕ, List, [], ◌∷◌, ◌++◌, Bool, true, min}
use Rattle.std.specs.Prelude.{length, not, Option, None, Some, Result, Ok, Err}
use Rattle.std.specs.Io.KnownBytes.{Consumes}
use Rattle.std.specs.Duration.{as_nanos, max_nanos}
use Rattle.std.specs.declared.time.Duration.{Duration}
use Rattle.dispatch_room_sockets.specs.declared.closing_connections.ClosingConnection.{ClosingConnection}
use Rattle.dispatch_room_sockets.specs.declared.nonblocking_streams.NoBytes.{NoBytes}
use Rattle.dispatch_room_sockets.specs.declared.nonblocking_streams.NoBytes.TheVariants.{Ever}
use Rattle.dispatch_room_sockets.specs.Verdicts.{is_over}

-- it is the turn of one who leaves: it doesn't rest any longer
abbrev pub is_due : Option Duration → Duration → Bool
is_due None now = true
is_due (Some rests) now = is_over now rests

-- More comes no longer on a stream, as its reads may give: it is at its end, or lost, or 4,096
-- bytes at least have been thrown away since.
abbrev pub IsSpent : (Result ℕ NoBytes → Type 0) → Option (List ℕ) → Option (List ℕ) → Type 0
IsSpent gives left after = gives (Ok 0) ⊎ gives (Err Ever)
    ⊎ ((bytes : List ℕ) × Consumes left after bytes × (4096 ≤ length bytes))

module _ {C : Type 0} where
  -- One stands behind those who are parted from, is kept until a moment, and rests two milliseconds
  -- from now on.
  abbrev pub IsParting : C → Duration → Duration → List (ClosingConnection C) → List (ClosingConnection C) → Type 0
  IsParting caller until now closing_connections more =
      (rests : Duration) × (as_nanos rests ≡ min (as_nanos now + 2000000) max_nanos)
      × (more ≡ closing_connections ++ record { caller = caller; until = until; rests = Some rests } ∷ [])

  -- One is parted from at the moment that a clock shows. It is dropped only where the clock can't
  -- be read or 1,024 leave already, and they stay as they are.
  abbrev pub Departs : (Option Duration → Type 0) → C → Duration → List (ClosingConnection C)
      → List (ClosingConnection C) → Type 0
  Departs shows caller until closing_connections more = ((more ≡ closing_connections)
      × (shows None ⊎ (1024 ≤ length closing_connections)))
      ⊎ ((now : Duration) × shows (Some now) × IsParting caller until now closing_connections more)

  -- one who leaves is in its time, and it isn't its turn yet
  abbrev pub is_resting : Duration → ClosingConnection C → Bool
  is_resting now l = not (is_over now l.until || is_due l.rests now)
