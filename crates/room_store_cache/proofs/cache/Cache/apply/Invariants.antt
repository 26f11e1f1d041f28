use Rattle.std.proofs.Common.{take}
use Rattle.room_model.specs.Room.{IsInOrder, Room, apply}
use Rattle.room_store_cache.specs.Cache.{IsCacheOf}
use Rattle.room_store_cache.proofs.cache.Cache.apply.Given as goal

abbrev pub invariant-loop-change : goal.invariant-loop-change
invariant-loop-change l =
    (room : Room) → IsInOrder room → IsCacheOf l.initial.self room
    → IsCacheOf l.self (apply room (take l.change-index l.changes))
