-- How many calls and turns are of one of a division's incidents, counted by their numbers only.
use Rattle.std.specs.Ordering.{is_eq}
use Rattle.std.specs.Prelude.{Bool, List, filter, length, map, ℕ, ◌&&◌, ◌==◌, ◌≡◌}
use Rattle.room_types.specs.Codes.{same_kind}
use Rattle.room_types.specs.Keys.{incident_key, pair_cmp}
use Rattle.room_types.specs.declared.codes.Kind.{Kind}
use Rattle.room_types.specs.declared.codes.Kind.TheVariants.{Ambulance, Car, Support}
use Rattle.room_types.specs.declared.slices.DivisionRows.{DivisionRows}
use Rattle.room_types.specs.declared.tables.Call.{Call}
use Rattle.room_types.specs.declared.tables.Incident.{Incident}
use Rattle.room_types.specs.declared.tables.Turn.{Turn}
use Rattle.room_model.specs.Queries.{counts}
use Rattle.room_incident.specs.declared.incident_tallies.Tallies.{Tallies}

-- how many of the division's numbers are the incident's
abbrev pub times : ℕ → List ℕ → Incident → ℕ
times d numbers i = length (filter (λ n. is_eq (pair_cmp (d, n) (incident_key i))) numbers)

-- the numbers of the incidents that the division's calls are of
abbrev pub call_numbers : ℕ → List Call → List ℕ
call_numbers d calls = map (λ c. c.incident) (filter (λ c. c.division == d) calls)

-- the turn counts for what an incident of the division got of the kind
abbrev pub serves_here : ℕ → Kind → Turn → Bool
serves_here d k t = t.division == d && (same_kind t.kind k && counts t)

-- the numbers of the incidents that the division's turns of the kind count for
abbrev pub served_numbers : ℕ → Kind → List Turn → List ℕ
served_numbers d k turns = map (λ t. t.incident) (filter (serves_here d k) turns)

-- they are those of the division's incidents, one after another
pub record AreTallies (d : ℕ) (s : DivisionRows) (x : Tallies) : Type 0 where
  pub calls : x.calls.items ≡ map (times d (call_numbers d s.calls)) s.incidents
  pub ambulances :
      x.ambulances.items ≡ map (times d (served_numbers d Ambulance s.turns)) s.incidents
  pub cars : x.cars.items ≡ map (times d (served_numbers d Car s.turns)) s.incidents
  pub support : x.support.items ≡ map (times d (served_numbers d Support s.turns)) s.incidents
