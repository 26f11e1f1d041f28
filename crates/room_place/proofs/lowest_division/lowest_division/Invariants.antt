use Rattle.std.proofs.Common.{drop, nat_lt, ◌≡◌}
use Rattle.room_place.specs.Choice.{least, least_from}
use Rattle.room_place.specs.Plans.{divisions_with}
use Rattle.room_place.proofs.lowest_division.lowest_division.Given as goal

-- what is left decides the rest
abbrev pub invariant-loop-area : goal.invariant-loop-area
invariant-loop-area l =
    least_from nat_lt l.lowest (divisions_with l.place (drop l.area-index l.areas))
    ≡ least nat_lt (divisions_with l.place l.areas)
