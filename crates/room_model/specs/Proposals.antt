-- Which vehicles are proposed for an incident.
use Rattle.std.specs.Ordering.{bool_cmp, is_lt, nat_cmp, ordering_then}
use Rattle.std.specs.Prelude.{Bool, List, None, filter, map, ℕ, ◌&&◌, ◌++◌}
use Rattle.std.specs.declared.cmp.Ordering.{Ordering}
use Rattle.room_place.specs.Choice.{AreFirst, chosen}
use Rattle.room_place.specs.Places.{distance}
use Rattle.room_types.specs.Keys.{callsign_cmp}
use Rattle.room_types.specs.declared.answers.Proposal.{Proposal}
use Rattle.room_types.specs.declared.codes.Kind.{Kind}
use Rattle.room_types.specs.declared.codes.Kind.TheVariants.{Ambulance, Car, Support}
use Rattle.room_types.specs.declared.tables.Incident.{Incident}
use Rattle.room_types.specs.declared.tables.Vehicle.{Vehicle}
use Rattle.room_types.specs.Codes.{same_kind}
use Rattle.room_model.specs.Decisions.{Verdict, show, where_active}
use Rattle.room_model.specs.Incidents.{lacking}
use Rattle.room_model.specs.Points.{breaks_cover}
use Rattle.room_model.specs.Queries.{incident_of, is_eligible}
use Rattle.room_model.specs.Room.{Room}
use Rattle.room_types.specs.declared.answers.Answer.TheVariants as answer

-- those that don't break cover first, then the nearer, then by callsign
abbrev pub proposal_cmp : Proposal → Proposal → Ordering
proposal_cmp a b =
    ordering_then (bool_cmp a.breaks b.breaks)
    (ordering_then (nat_cmp a.distance b.distance) (callsign_cmp a.callsign b.callsign))

abbrev pub is_before : Proposal → Proposal → Bool
is_before a b = is_lt (proposal_cmp a b)

abbrev pub proposal_of : ℕ → Incident → ℕ → Room → Vehicle → Proposal
proposal_of d i at r v = record {
  breaks = breaks_cover d at r v;
  distance = distance v.place i.place;
  kind = v.kind;
  callsign = v.callsign;
}

-- the eligible vehicles of a kind
abbrev pub eligible : ℕ → Kind → ℕ → Room → List Vehicle
eligible d k at r = filter (λ v. is_eligible d at v && same_kind v.kind k) r.vehicles

-- what may be proposed of a kind
unfoldable pub candidates : ℕ → Incident → Kind → ℕ → Room → List Proposal
candidates d i k at r = map (proposal_of d i at r) (eligible d k at r)

-- as many of them as lack, in order
abbrev pub proposed : ℕ → Incident → ℕ → Room → Kind → List Proposal
proposed d i at r k = chosen is_before (lacking d i r k) None (candidates d i k at r)

-- ps are what is proposed of a kind
abbrev pub AreProposed : ℕ → Incident → ℕ → Room → Kind → List Proposal → Type 0
AreProposed d i at r k ps = AreFirst is_before (lacking d i r k) None (candidates d i k at r) ps

abbrev pub all_proposed : ℕ → Incident → ℕ → Room → List Proposal
all_proposed d i at r =
    proposed d i at r Ambulance
    ++ (proposed d i at r Car ++ proposed d i at r Support)

unfoldable pub propose : ℕ → ℕ → ℕ → Room → Verdict
propose d n at r =
    where_active (incident_of d n r) (λ i. show (answer.Proposals (all_proposed d i at r)))
