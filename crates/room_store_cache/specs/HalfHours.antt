-- Incidents that were opened in one half hour.
use Rattle.std.specs.Prelude.{ℕ, ◌+◌, ◌≤◌}
use Rattle.room_types.specs.declared.tables.Incident.{Incident}

-- it was opened in the half hour from this second on
abbrev pub IsOpenedIn : ℕ → Incident → Type 0
IsOpenedIn from i = (from ≤ i.opened) × (i.opened ≤ from + 1800)
