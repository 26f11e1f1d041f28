use Rattle.std.proofs.Common.{◌≡◌, map, take}
use Rattle.room_alloc.specs.Nearness.{proposal_with}
use Rattle.room_alloc.proofs.ring_search.first_of.Given as goal

abbrev pub invariant-loop-near : goal.invariant-loop-near
invariant-loop-near l = l.few ≡ map (proposal_with l.breaks l.kind) (take l.near-index l.near-items)
