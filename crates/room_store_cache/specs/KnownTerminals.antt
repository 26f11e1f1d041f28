-- Which terminals are of a room.
use Rattle.std.specs.Prelude.{All, List, Some, ◌≡◌}
use Rattle.room_types.specs.declared.fleet.Terminal.{Terminal}
use Rattle.room_model.specs.FleetRows.{terminal_at}

-- the terminal is one of these: that of its token
abbrev pub IsOneOf : List Terminal → Terminal → Type 0
IsOneOf terminals t = terminal_at t.token terminals ≡ Some t

-- each of those that are known is
abbrev pub AreTerminalsOf : List Terminal → List Terminal → Type 0
AreTerminalsOf known terminals = All (IsOneOf terminals) known
