use Rattle.std.proofs.Common.{rules, subst}
use Rattle.std.proofs.lemmas.List.Sorted.{IsNonDecreasingBy-from_sort_by_key}
use Rattle.room_alloc.specs.Rings.{AreByRing}
use Rattle.room_alloc.proofs.RingLaws.{sorted_by_ring}
use Rattle.room_alloc.proofs.ring_search.by_ring.Goals as goal

pub returns : goal.returns
returns c =
    subst (λ xs. AreByRing xs c.sort_unstable_by_key.new.self.items) c.in_ok-all.ensures
    (sorted_by_ring _ _ c.sort_unstable_by_key.ensures.permutation
    (IsNonDecreasingBy-from_sort_by_key (λ p. p.ring) _ c.sort_unstable_by_key.ensures.sorted
    (λ a r q k. search rules)))
