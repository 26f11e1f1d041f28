use Rattle.std.proofs.Common.{take, ◌<◌, ◌^◌, ◌≡◌}
use Rattle.room_place.specs.References.{number_of}
use Rattle.room_place.proofs.grid_references.number_of.Given as goal

abbrev pub invariant-loop-digit : goal.invariant-loop-digit
invariant-loop-digit l = record {
  value : l.number ≡ number_of (take l.digit-index l.digits);
  below : l.number < 10 ^ l.digit-index;
}
