-- How a peer is parted from: what is done, and in which order.
use Rattle.std.specs.Prelude.{◌≡◌, ◌⊎◌, ◌<◌, ◌≤◌, ℕ, List, [], ◌∷◌, ◌++◌, Bool, true, false, length}
use Rattle.std.specs.Prelude.{Option, None, Some, replicate, if◌then◌else◌}
use Rattle.std.specs.Io.KnownBytes.{Consumes}
use Rattle.std.specs.declared.time.Duration.{Duration}

-- A step: the writing side is shut, or could not be. Or a piece of what the peer still sends is
-- waited for until a moment and thrown away, and more may come after it or not.
pub data Step : Type 0 where
  shut : Bool → Step
  threw : Duration → Bool → Step

-- The bytes that are known to come lose some at their front, so many at most.
abbrev pub ThrowsAway : ℕ → Option (List ℕ) → Option (List ℕ) → Type 0
ThrowsAway most old new = (bytes : List ℕ) × Consumes old new bytes × (length bytes ≤ most)

-- what comes until a moment is thrown away: piece after piece up to one after which no more comes,
-- or 4,096 of them
abbrev pub IsDrained : Duration → List Step → Type 0
IsDrained moment steps = (count : ℕ) × (((count < 4096)
    × (steps ≡ replicate count (threw moment true) ++ threw moment false ∷ []))
    ⊎ ((count ≡ 4096) × (steps ≡ replicate count (threw moment true))))

-- until when a peer is read from that is parted from: as long as its answer may wait, and not at
-- all where it sends no more
abbrev pub drains_until : Bool → Option Duration → Option Duration
drains_until is_open answered = if is_open then answered else None

-- The peer is parted from. Where it is read from until a moment, its writing side is shut first,
-- and then, where that could be done, what still comes is thrown away.
abbrev pub IsParted : Option Duration → List Step → Type 0
IsParted None steps = steps ≡ []
IsParted (Some moment) steps = (steps ≡ shut false ∷ [])
    ⊎ ((pieces : List Step) × (steps ≡ shut true ∷ pieces) × IsDrained moment pieces)
