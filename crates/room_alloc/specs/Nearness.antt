-- The order in which vehicles that break cover alike are proposed.
use Rattle.std.specs.Ordering.{is_lt, nat_cmp, ordering_then}
use Rattle.std.specs.Prelude.{Bool}
use Rattle.std.specs.declared.cmp.Ordering.{Ordering}
use Rattle.room_types.specs.Keys.{callsign_cmp}
use Rattle.room_types.specs.declared.answers.Proposal.{Proposal}
use Rattle.room_types.specs.declared.codes.Kind.{Kind}
use Rattle.room_alloc.specs.declared.nearness.Nearness.{Nearness}

-- the nearer, and then by callsign
abbrev pub nearness_cmp : Nearness → Nearness → Ordering
nearness_cmp a b =
    ordering_then (nat_cmp a.distance b.distance) (callsign_cmp a.callsign b.callsign)

abbrev pub is_nearer : Nearness → Nearness → Bool
is_nearer a b = is_lt (nearness_cmp a b)

-- a nearness is its own key
abbrev pub whole : Nearness → Nearness
whole n = n

-- a vehicle of a kind that is so near, as it may be proposed
abbrev pub proposal_with : Bool → Kind → Nearness → Proposal
proposal_with breaks kind n = record {
  breaks = breaks;
  distance = n.distance;
  kind = kind;
  callsign = n.callsign;
}
