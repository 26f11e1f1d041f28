-- The parts of a line in the log.
use Rattle.std.specs.Prelude.{ℕ, List, ◌++◌, map, codes, decimal, ◌==◌, if◌then◌else◌, Option, Some}
use Rattle.std.specs.Prelude.{None}
use Rattle.std.specs.List.{before_first}
use Rattle.std.specs.Char.{is_ascii_graphic}
use Rattle.room_types.specs.declared.asks.Who.{Who}
use Rattle.room_types.specs.declared.asks.Who.TheVariants.{Desk, Crew, Position}

-- a byte that is visible in ASCII, and a question mark in the place of any other
abbrev pub visible_byte : ℕ → ℕ
visible_byte byte = if is_ascii_graphic byte then byte else 63

abbrev pub visible : List ℕ → List ℕ
visible bytes = map visible_byte bytes

-- who asked
abbrev pub asker_text : Option Who → List ℕ
asker_text None = codes "none"
asker_text (Some (Desk division)) = codes "desk " ++ decimal division
asker_text (Some (Crew callsign)) = codes "crew " ++ callsign
asker_text (Some (Position position)) = codes "position " ++ decimal position

-- a target up to its parameters
abbrev pub path_of : List ℕ → List ℕ
path_of target = before_first (λ byte. byte == 63) target
