-- How far moves have come.
use Rattle.std.specs.Prelude.{List, Ok, ℕ, ◌≡◌}
use Rattle.room_types.specs.declared.answers.MoveLine.{MoveLine}
use Rattle.room_types.specs.declared.asks.Move.{Move}
use Rattle.room_types.specs.declared.changes.Change.{Change}
use Rattle.room_model.specs.Room.{Room, apply}
use Rattle.room_model.specs.RoomAgreements.{IsWellFormed}
use Rattle.room_model.specs.Step.{course}
use Rattle.room_store_cache.specs.Cache.{IsCacheOf}
use Rattle.room_store_cache.specs.declared.cache.Cache.{Cache}

-- These moves, made in this room, come to these changes and lines, and what is known is so in the
-- room after them.
pub record Comes (d at : ℕ) (done : List Move) (room : Room) (known : Cache)
    (changes : List Change)
    (lines : List MoveLine) : Type 0 where
  pub made : course d done at room ≡ Ok (changes, lines)
  pub formed : IsWellFormed (apply room changes)
  pub cache : IsCacheOf known (apply room changes)
