use Rattle.std.specs.List.{AllWithin}
use Rattle.room_store_cache.specs.HalfHours.{IsOpenedIn}
use Rattle.room_store_cache.proofs.half_hours.HalfHour.new.Given as goal

abbrev pub invariant-loop-incident : goal.invariant-loop-incident
invariant-loop-incident l =
    AllWithin (IsOpenedIn l.from) l.fn.incidents 0 l.incident-index
