-- The most urgent is first in a queue, whatever number of others there are.
use Rattle.std.specs.Prelude.{List, take, ℕ, ◌++◌, ◌<◌, ◌∷◌, ◌≡◌, ◌↔◌, ◌⊎◌}
use Rattle.std.specs.declared.cmp.Ordering.TheVariants.{Less}
use Rattle.room_place.specs.Choice.{Among, AreDistinct}
use Rattle.room_types.specs.Keys.{entry_cmp}
use Rattle.room_types.specs.Ranks.{rank_number}
use Rattle.room_types.specs.declared.answers.QueueEntry.{QueueEntry}
use Rattle.room_model.specs.Queue.{entries}
use Rattle.room_model.specs.Room.{Room}

-- the first is more urgent: by rank, then by since, number and callsign
abbrev pub IsMoreUrgent : QueueEntry → QueueEntry → Type 0
IsMoreUrgent e f = entry_cmp e f ≡ Less

-- a queue of division d at a moment
pub record IsUrgentFirst (d at : ℕ) (room : Room) (queue : List QueueEntry) : Type 0 where
  -- what needs an eye is in it, and nothing else is
  pub there : (e : QueueEntry) → Among e (entries d at room) ↔ Among e queue
  -- each once
  pub once : AreDistinct queue
  -- each entry stands before all of a higher rank
  pub by_rank : (before after : List QueueEntry) (e f : QueueEntry)
      → queue ≡ before ++ f ∷ after → Among e queue → rank_number e.rank < rank_number f.rank → Among e before
  -- the first so many are the most urgent: each of them is more urgent than all that is not there
  pub first : (many : ℕ) (e f : QueueEntry) → Among e (take many queue) → Among f queue
      → Among f (take many queue) ⊎ IsMoreUrgent e f
