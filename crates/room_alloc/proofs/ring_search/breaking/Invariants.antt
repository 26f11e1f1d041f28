use Rattle.std.proofs.Common.{◌≡◌, ◌++◌, drop}
use Rattle.std.specs.Prelude.{filter}
use Rattle.room_alloc.specs.Rings.{is_breaking}
use Rattle.room_alloc.proofs.ring_search.breaking.Given as goal

abbrev pub invariant-loop-candidate : goal.invariant-loop-candidate
invariant-loop-candidate l =
    l.breaking.items ++ filter (is_breaking l.breaks) (drop l.candidate-index l.candidates)
    ≡ filter (is_breaking l.breaks) l.candidates
