-- The incidents that their calls keep in a new room.
use Rattle.std.specs.BTreeSet.{BTreeSet, contains}
use Rattle.std.specs.List.{list_any}
use Rattle.std.specs.Prelude.{Bool, List, None, Option, Some, filter, nat_le, not, true, ℕ, ◌&&◌}
use Rattle.std.specs.Prelude.{◌==◌, ◌||◌, ◌≡◌}
use Rattle.room_types.specs.Keys.{pair_cmp}
use Rattle.room_types.specs.declared.tables.Call.{Call}
use Rattle.room_model.specs.Queries.{greatest_serial}

-- no call of its position comes after it in key order
abbrev pub is_end : Call → Option Call → Bool
is_end c None = true
is_end c (Some next) = not (next.position == c.position)

-- taken since a moment, or the last of its position among these
abbrev pub is_recent_of : ℕ → List Call → Call → Bool
is_recent_of since calls c =
    nat_le since c.at || c.serial == greatest_serial (filter (λ x. x.position == c.position) calls)

-- the set has the incidents, by division and number, to which such a call of the first ones belongs
abbrev pub AreCalled : ℕ → List Call → List Call → BTreeSet (ℕ × ℕ) → Type 0
AreCalled since calls first set = (d n : ℕ) → contains pair_cmp set (d, n)
    ≡ list_any (λ c. c.division == d && (c.incident == n && is_recent_of since calls c)) first
