use Rattle.std.proofs.Common.{refl}
use Rattle.dispatch_room_dry_run.proofs.ExampleLemmas.{place_of_a1, place_of_a2, place_of_a3}
use Rattle.dispatch_room_dry_run.proofs.ExampleLemmas.{place_of_b1, place_of_c1}
use Rattle.dispatch_room_dry_run.proofs.example.fleet.Goals as goal

pub returns : goal.returns
returns c =
    rw (
      c.vehicle.ensures _ place_of_a1,
      c.vehicle-2.ensures _ place_of_a2,
      c.vehicle-3.ensures _ place_of_a3,
      c.vehicle-4.ensures _ place_of_b1,
      c.vehicle-5.ensures _ place_of_c1,
    ) refl
