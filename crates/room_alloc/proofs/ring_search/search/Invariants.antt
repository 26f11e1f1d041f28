use Rattle.std.proofs.Common.{map, take}
use Rattle.room_place.specs.Choice.{Among}
use Rattle.room_alloc.specs.Rings.{nearness_of}
use Rattle.room_alloc.specs.declared.nearness.Candidate.{Candidate}
use Rattle.room_alloc.specs.declared.nearness.Nearness.{Nearness}
use Rattle.room_alloc.proofs.ring_search.search.Given as goal

abbrev pub invariant-loop-candidate : goal.invariant-loop-candidate
invariant-loop-candidate l = record {
  only : (y : Nearness) → Among y l.found → Among y (map (nearness_of l.incident) l.candidates);
  there : (c : Candidate) → Among c (take l.candidate-index l.candidates) → Among (nearness_of l.incident c) l.found;
}
