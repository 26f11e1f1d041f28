-- What the sampled rooms share: the vehicles' callsigns, and two plans.
use Rattle.std.specs.Prelude.{List, [], codes, ◌∷◌}
use Rattle.room_place.specs.declared.plans.Area.{Area}
use Rattle.room_types.specs.Texts.{Callsign}
use Rattle.room_model.specs.ExampleRoom.{area}

abbrev pub A1 : Callsign
A1 = codes "A1"

abbrev pub A2 : Callsign
A2 = codes "A2"

abbrev pub A3 : Callsign
A3 = codes "A3"

abbrev pub B1 : Callsign
B1 = codes "B1"

abbrev pub B2 : Callsign
B2 = codes "B2"

-- a callsign that no vehicle has
abbrev pub Z9 : Callsign
Z9 = codes "Z9"

-- 1 and 2, side by side
abbrev pub two_divisions : List Area
two_divisions = area 1 500000 100000 549999 199999 ∷ area 2 550000 100000 599999 199999 ∷ []

-- 7 and 1, which share a strip
abbrev pub overlapping_divisions : List Area
overlapping_divisions = area 7 500000 100000 550000 199999 ∷ area 1 530100 100000 599999 199999 ∷ []
