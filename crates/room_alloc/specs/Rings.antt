-- Candidates ring by ring of cells round an incident.
use Rattle.std.specs.Prelude.{Bool, List, None, Option, Some, [], drop, false, filter, map, nat_lt}
use Rattle.std.specs.Prelude.{not, suc, true, zero, ℕ, ◌&&◌, ◌<◌, ◌∷◌, ◌≡◌, ◌≤◌, ◌⊎◌}
use Rattle.room_place.specs.Choice.{Among, first}
use Rattle.room_place.specs.Places.{cell_of, distance, ring_floor, ring_of}
use Rattle.room_types.specs.Codes.{same_kind}
use Rattle.room_types.specs.KeyedRows.{IsKeyed}
use Rattle.room_types.specs.Keys.{callsign_cmp}
use Rattle.room_types.specs.declared.answers.Proposal.{Proposal}
use Rattle.room_types.specs.declared.codes.Kind.{Kind}
use Rattle.room_types.specs.declared.tables.Incident.{Incident}
use Rattle.room_types.specs.declared.tables.Vehicle.{Vehicle}
use Rattle.room_model.specs.Points.{breaks_cover}
use Rattle.room_model.specs.Queries.{is_eligible}
use Rattle.room_model.specs.Room.{Room}
use Rattle.room_alloc.specs.declared.nearness.Candidate.{Candidate}
use Rattle.room_alloc.specs.declared.nearness.Nearness.{Nearness}

-- ---- candidates
-- an eligible vehicle of the kind
abbrev pub is_candidate : ℕ → ℕ → Kind → Vehicle → Bool
is_candidate d at k v = is_eligible d at v && same_kind v.kind k

abbrev pub candidate_of : ℕ → Incident → ℕ → Room → Vehicle → Candidate
candidate_of d i at r v = record {
  ring = ring_of (cell_of v.place) (cell_of i.place);
  breaks = breaks_cover d at r v;
  vehicle = v;
}

abbrev pub candidates_round : ℕ → Incident → Kind → ℕ → Room → List Vehicle → List Candidate
candidates_round d i k at r vehicles =
    map (candidate_of d i at r) (filter (is_candidate d at k) vehicles)

abbrev pub nearness_of : Incident → Candidate → Nearness
nearness_of i c = record {
  distance = distance c.vehicle.place i.place;
  callsign = c.vehicle.callsign;
}

-- the candidate as it may be proposed
abbrev pub proposal_at : Incident → Candidate → Proposal
proposal_at i c = record {
  breaks = c.breaks;
  distance = distance c.vehicle.place i.place;
  kind = c.vehicle.kind;
  callsign = c.vehicle.callsign;
}

-- the candidate breaks cover, or does not
abbrev pub is_breaking : Bool → Candidate → Bool
is_breaking true c = c.breaks
is_breaking false c = not c.breaks

-- the ring is one that a search comes to, and the candidate no nearer than the ring's floor
abbrev pub IsPlaced : Incident → Candidate → Type 0
IsPlaced i c = (c.ring < 200) × (ring_floor c.ring ≤ distance c.vehicle.place i.place)

abbrev pub ArePlaced : Incident → List Candidate → Type 0
ArePlaced i xs = (c : Candidate) → Among c xs → IsPlaced i c

abbrev pub AreOfKind : Kind → List Candidate → Type 0
AreOfKind k xs = (c : Candidate) → Among c xs → c.vehicle.kind ≡ k

-- in callsign order, no two of one callsign
abbrev pub AreApart : List Candidate → Type 0
AreApart xs = IsKeyed callsign_cmp (λ (c : Candidate). c.vehicle.callsign) xs

-- ---- the order of rings
-- no candidate stands before one of a lesser ring
abbrev pub IsByRing : List Candidate → Type 0
IsByRing [] = Unit {0}
IsByRing (x ∷ xs) = ((c : Candidate) → Among c xs → x.ring ≤ c.ring) × IsByRing xs

-- ys are the candidates of xs in the order of their rings
pub record AreByRing (xs ys : List Candidate) : Type 0 where
  pub only : (c : Candidate) → Among c ys → Among c xs
  pub there : (c : Candidate) → Among c xs → Among c ys
  pub rising : IsByRing ys

-- ---- a search
-- what is there, is nearer than this
abbrev pub is_below : Option Nearness → ℕ → Bool
is_below None floor = false
is_below (Some n) floor = nat_lt n.distance floor

-- the first n were found: the last of them is nearer than this ring and all later ones
abbrev pub is_enough : ℕ → ℕ → List Nearness → Bool
is_enough zero k found = true
is_enough (suc n) k found = is_below (first (drop n found)) (ring_floor k)

-- the search ended before the candidate's ring, or at it
pub record IsPast (n : ℕ) (found : List Nearness) (c : Candidate) : Type 0 where
  pub ring : ℕ
  pub later : ring ≤ c.ring
  pub enough : is_enough n ring found ≡ true

-- what was found are candidates; each other one stands past the end
pub record IsSearched (n : ℕ) (i : Incident) (xs : List Candidate)
    (found : List Nearness) : Type 0 where
  pub only : (y : Nearness) → Among y found → Among y (map (nearness_of i) xs)
  pub there : (c : Candidate) → Among c xs → Among (nearness_of i c) found ⊎ IsPast n found c
