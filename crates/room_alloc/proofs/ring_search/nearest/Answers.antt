use Rattle.std.proofs.Common.{None, subst, sym}
use Rattle.std.specs.Prelude.{filter, map}
use Rattle.room_model.proofs.Tests.{among_filter}
use Rattle.room_model.specs.Proposals.{is_before}
use Rattle.room_place.specs.Choice.{AreFirst}
use Rattle.room_alloc.specs.Rings.{AreByRing, is_breaking, proposal_at}
use Rattle.room_alloc.proofs.RingLaws.{searched_as}
use Rattle.room_alloc.proofs.SearchLaws.{nearest_first}
use Rattle.room_alloc.proofs.ring_search.nearest.Goals as goal

pub search-requires : goal.search-requires
search-requires c =
    let a = c.args in
    let order = subst (AreByRing (filter (is_breaking a.breaks) a.candidates.now)) (sym c.as_slice.ensures.value)
    c.in_ok-by_ring.ensures in
    record {
      placed = λ x h. c.requires.placed x (among_filter (is_breaking a.breaks) a.candidates.now x (order.only x h)).0;
      rising = order.rising;
    }

pub returns-clause-ok : goal.returns-clause-ok
returns-clause-ok c =
    let a = c.args in
    let breaking = filter (is_breaking a.breaks) a.candidates.now in
    let order = subst (AreByRing breaking) (sym c.as_slice.ensures.value) c.in_ok-by_ring.ensures in
    let searched = searched_as a.count a.incident.now breaking _ c.in_ok-found.found order c.in_ok-found.ensures.ok in
    subst (AreFirst is_before a.count None (map (proposal_at a.incident.now) breaking)) (sym c.in_ok-few.ensures.few)
    (nearest_first a.count a.breaks a.kind a.incident.now a.candidates.now c.in_ok-found.found c.requires.placed
    c.requires.kind c.requires.apart c.in_ok-few.ensures.in_order searched)
