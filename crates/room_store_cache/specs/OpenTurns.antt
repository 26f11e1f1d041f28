-- Which turns are open ones of a room.
use Rattle.std.specs.Prelude.{IfSome, List, None, Some, ℕ, ◌≡◌}
use Rattle.room_types.specs.KeyedRows.{row_at}
use Rattle.room_types.specs.Keys.{numbered_cmp, turn_key}
use Rattle.room_types.specs.Texts.{Callsign}
use Rattle.room_types.specs.declared.tables.Turn.{Turn}
use Rattle.room_model.specs.Room.{Room}

-- each of these turns is the room's of its key, and open
abbrev pub AreTurnsOf : List Turn → Room → Type 0
AreTurnsOf turns room = (k : Callsign × ℕ) → IfSome (row_at numbered_cmp turn_key turns k) (λ t.
    (row_at numbered_cmp turn_key room.turns k ≡ Some t) × (t.ended ≡ None))
