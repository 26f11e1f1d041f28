-- How commands and lists name who has a terminal: desk:1, position:3 or crew:A1.
use Rattle.std.specs.Prelude.{List, codes, decimal, slice_index, true, ℕ, ◌++◌, ◌<◌, ◌^◌, ◌≡◌, ◌≤◌}
use Rattle.room_types.specs.Texts.{is_callsign}
use Rattle.room_types.specs.declared.asks.Who.{Who}
use Rattle.room_types.specs.declared.asks.Who.TheVariants.{Crew, Desk, Position}

-- the text that names one who has a terminal
abbrev pub who_text : Who → List ℕ
who_text (Desk division) = codes "desk:" ++ decimal division
who_text (Position position) = codes "position:" ++ decimal position
who_text (Crew callsign) = codes "crew:" ++ callsign

-- who there may be: the desk of a division from 1 to 9, a position from 1 to 99, or the crew of a
-- callsign
abbrev pub IsWho : Who → Type 0
IsWho (Desk division) = (1 ≤ division) × (division ≤ 9)
IsWho (Position position) = (1 ≤ position) × (position ≤ 99)
IsWho (Crew callsign) = is_callsign callsign ≡ true

-- the text names this one
pub record Names (text : List ℕ) (who : Who) : Type 0 where
  pub is_who : IsWho who
  pub named : text ≡ who_text who

-- the text names nobody
abbrev pub NamesNobody : List ℕ → Type 0
NamesNobody text = (who : Who) → ¬ Names text who

-- the number of 32 bits, and not 0, that the text writes in decimal
pub record WritesNumber (text : List ℕ) (number : ℕ) : Type 0 where
  pub least : 1 ≤ number
  pub small : number < 2 ^ 32
  pub written : text ≡ decimal number

-- the text writes no such number
abbrev pub WritesNone : List ℕ → Type 0
WritesNone text = (number : ℕ) → ¬ WritesNumber text number

-- the text begins with a digit that is not 0 (49 is the code of 1)
abbrev pub BeginsNumber : List ℕ → Type 0
BeginsNumber text = (49 ≤ slice_index text 0) × (slice_index text 0 ≤ 57)
