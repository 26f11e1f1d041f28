-- The calls of an incident.
use Rattle.std.specs.Prelude.{Bool, ℕ, ◌&&◌, ◌==◌}
use Rattle.room_types.specs.declared.tables.Call.{Call}

abbrev pub is_call_of : ℕ → ℕ → Call → Bool
is_call_of d n c = c.division == d && c.incident == n
