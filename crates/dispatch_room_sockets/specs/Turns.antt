-- Whose turn it is of those who are to be served, how long it is, and who waits again.
use Rattle.std.specs.Prelude.{◌≡◌, ◌+◌, ◌<◌, ◌≤◌, ◌||◌, ◌&&◌, ℕ, List, [], ◌∷◌, ◌++◌, Bool, false}
use Rattle.std.specs.Prelude.{length, min, nat_lt, Option, None, Some}
use Rattle.std.specs.Duration.{as_nanos, max_nanos}
use Rattle.std.specs.declared.time.Duration.{Duration}
use Rattle.dispatch_room_sockets.specs.declared.kept_callers.Kept.{Kept}
use Rattle.dispatch_room_sockets.specs.declared.kept_callers.Heard.{Heard}
use Rattle.dispatch_room_sockets.specs.declared.kept_callers.Heard.TheVariants.{Whole}
use Rattle.dispatch_room_sockets.specs.Sweeps.{IsSwept, Looked}
use Rattle.dispatch_room_sockets.specs.Verdicts.{is_over}

-- the moment, or the clock's first where there is none
abbrev pub moment_or_first : Option Duration → ℕ
moment_or_first None = 0
moment_or_first (Some now) = as_nanos now

-- A turn is over after 50,000 reads. It is over by time once both moments have come: until the one
-- nobody else has moved, and until the other it goes on all the same.
abbrev pub is_turn_over : ℕ → Duration → Duration → Duration → Bool
is_turn_over reads now only_until turn_ends =
    nat_lt 50000 reads || (is_over now only_until && is_over now turn_ends)

-- Where some are to be served, the first of them is given, and the line stays as it is: nobody is
-- looked at before. Nobody is given only where nobody is to be served, also once all were looked
-- at.
pub record IsInTurn {C : Type 0} (line lines ready readied : List (Kept C))
    (given : Option (Kept C)) : Type 0 where
  pub first : (k : Kept C) (more : List (Kept C)) → ready ≡ k ∷ more
      → (given ≡ Some k) × (readied ≡ more) × (lines ≡ line)
  pub nobody : given ≡ None → readied ≡ []

-- One who was served stands behind those who wait, as one who has said nothing, and may be silent
-- so long from the moment on that a clock shows, or from its beginning where it can't be read.
pub record WaitsAgain {C : Type 0} (shows : Option Duration → Type 0) (keep : Duration) (n : ℕ)
    (caller : C) (line lines : List (Kept C)) : Type 0
  where
    pub now : Option Duration
    pub shown : shows now
    pub until : Duration
    pub silent : as_nanos until ≡ min (moment_or_first now + as_nanos keep) max_nanos
    pub behind : lines
        ≡ line ++ record { number = n; caller = caller; has_begun = false; until = until } ∷ []

-- One after the other is given, or nobody. Between two of them those who are to be served stay,
-- whoever comes back, leaves or waits.
abbrev pub AreTurns : {C : Type 0} → List (Option (Kept C)) → List (Kept C) → List (Kept C) → Type 0
AreTurns [] ready readied = readied ≡ ready
AreTurns {C} (given ∷ more) ready readied = (line lines mid : List (Kept C))
    × IsInTurn line lines ready mid given × AreTurns more mid readied

-- Whoever a look at all finds to be whole is given after as many others, at most, as were to be
-- served before the look or stood before it in the line.
abbrev pub AreGivenSoon : Type 0 → Type 0
AreGivenSoon C =
    (now patience : Duration) (line left ready readied last : List (Kept C))
    (log logs : Option (List Heard)) (before after : List (Looked C)) (found : Looked C)
    (given : List (Option (Kept C)))
    → (s : IsSwept now patience line left ready readied log logs)
    → s.looks ≡ before ++ found ∷ after → found.heard ≡ Whole → AreTurns given readied last
    → length ready + length before < length given
    → (others more : List (Option (Kept C)))
    × (given ≡ others ++ Some found.after ∷ more)
    × (length others ≤ length ready + length before)
