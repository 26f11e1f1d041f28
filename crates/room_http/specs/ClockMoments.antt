-- What the clock gave.
use Rattle.std.specs.Prelude.{◌≡◌, ◌⊎◌, ◌<◌, ℕ, List, [], ◌∷◌, ◌++◌, Bool, true, Option}
use Rattle.std.specs.Io.KnownBytes.{Appends}
use Rattle.room_types.specs.declared.numbers.TheConstants.{LAST_MOMENT}

-- after these moments the clock gave none, or one that is none of the room's
abbrev pub HasNoMoment : Option (List ℕ) → Option (List ℕ) → Bool → List ℕ → Type 0
HasNoMoment old new was_none moments =
    ((was_none ≡ true) × Appends old new moments)
    ⊎ ((at : ℕ) × (LAST_MOMENT < at) × Appends old new (moments ++ at ∷ []))
