use Rattle.std.proofs.Common.{◌≡◌, ◌++◌, drop}
use Rattle.room_model.specs.RoomSlices.{unplanned}
use Rattle.room_alloc.specs.Rings.{ArePlaced, candidates_round}
use Rattle.room_alloc.proofs.ring_search.candidates_round.Given as goal

abbrev pub invariant-loop-vehicle : goal.invariant-loop-vehicle
invariant-loop-vehicle l = record {
  rest : l.all.items
      ++ candidates_round l.slice.division l.incident l.kind l.at (unplanned l.slice.rows)
      (drop l.vehicle-index l.slice.rows.vehicles)
      ≡ candidates_round l.slice.division l.incident l.kind l.at (unplanned l.slice.rows) l.slice.rows.vehicles;
  placed : ArePlaced l.incident l.all.items;
}
