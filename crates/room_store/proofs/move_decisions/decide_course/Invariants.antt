use Rattle.std.proofs.Common.{take, ◌∷◌}
use Rattle.room_model.specs.Room.{Room}
use Rattle.room_model.specs.RoomAgreements.{IsWellFormed}
use Rattle.room_store_cache.specs.Cache.{IsCacheOf}
use Rattle.room_store.proofs.MoveCourses.{there}
use Rattle.room_store.specs.MoveDecisions.{Comes}
use Rattle.room_store.proofs.move_decisions.decide_course.Given as goal

abbrev pub invariant-loop-other : goal.invariant-loop-other
invariant-loop-other l =
    (room : Room) → IsWellFormed room → IsCacheOf l.fn.known room
    → Comes l.division l.at (l.moves.first ∷ there (take l.other-index l.others)) room
    l.course.known l.course.changes l.course.lines
