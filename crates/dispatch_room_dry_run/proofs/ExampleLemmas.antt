-- What holds of the example room as it is written out.
use Rattle.std.proofs.Common.{◌≡◌, ap, refl, List}
use Rattle.std.specs.Prelude.{IsSome, Ok, codes}
use Rattle.jiff.proofs.OnLiterals.{jiff_on_literals}
use Rattle.jiff.specs.Words.{read_whole}
use Rattle.room_place.specs.Plans.{Layout}
use Rattle.room_place.specs.References.{parse}
use Rattle.room_place.specs.declared.plans.Area.{Area}
use Rattle.room_tables.specs.RoomsInTables.{empty_room}
use Rattle.room_store_writes.specs.NewRoom.{new_divisions, new_room}
use Rattle.dispatch_room_dry_run.specs.Example.{example_plan}

-- the rule of its zone is one
pub zone_is_read : IsSome (read_whole example_plan.zone)
unfolding jiff_on_literals
zone_is_read = refl

-- a new room begins with the areas of its plan
pub same_new_room : (plan other : Layout) → plan.areas ≡ other.areas
    → new_room plan ≡ new_room other
same_new_room plan other same =
    ap (λ (areas : List Area). record empty_room { plan = areas; divisions = new_divisions areas }) same

-- where the vehicles stand
pub place_of_a1 : parse (codes "TQ303804") ≡ Ok (record { east = 530_300; north = 180_400 })
place_of_a1 = refl

pub place_of_a2 : parse (codes "TQ304803") ≡ Ok (record { east = 530_400; north = 180_300 })
place_of_a2 = refl

pub place_of_a3 : parse (codes "TQ300801") ≡ Ok (record { east = 530_000; north = 180_100 })
place_of_a3 = refl

pub place_of_b1 : parse (codes "TQ600800") ≡ Ok (record { east = 560_000; north = 180_000 })
place_of_b1 = refl

pub place_of_c1 : parse (codes "TQ300800") ≡ Ok (record { east = 530_000; north = 180_000 })
place_of_c1 = refl
