-- What a change does to the incident views that are kept.
use Rattle.std.proofs.Common.{Bool, Some, arith, cond, refl, sym, ℕ, ◌&&◌, ◌∙◌, ◌≡◌}
use Rattle.std.proofs.lemmas.Bool.Decides.{nat_tests}
use Rattle.std.specs.Ordering.{is_eq, nat_cmp}
use Rattle.std.specs.Prelude.{◌==◌}
use Rattle.room_tables_schema.proofs.Comparisons.{is_eq-then}
use Rattle.room_types.proofs.KeyedLaws.{row_put}
use Rattle.room_types.specs.KeyedRows.{drop_row, put_row}
use Rattle.room_types.specs.Keys.{incident_key, numbered_cmp, pair_cmp, turn_key}
use Rattle.room_types.specs.KeyLemmas.{numbered_total, pairs_total}
use Rattle.room_types.specs.declared.changes.Change.TheVariants.{PutIncident, PutTurn}
use Rattle.room_types.specs.declared.tables.Incident.{Incident}
use Rattle.room_types.specs.declared.tables.Turn.{Turn}
use Rattle.room_model.specs.Room.{IsInOrder, Room, apply_one}
use Rattle.room_store_cache.proofs.Filters.{same_number}
use Rattle.room_store_cache.proofs.KeptLaws.{pass_put}
use Rattle.room_store_cache.specs.IncidentViews.{IsIncidentViewOf}
use Rattle.room_store_cache.specs.declared.incident_views.IncidentView.{IncidentView}

-- it is what the division has under the number
abbrev pub is_under : IncidentView → ℕ → ℕ → Bool
is_under x d n = x.division == d && x.number == n

pair_is : (d n a b : ℕ) → is_eq (pair_cmp (d, n) (a, b)) ≡ d == a && n == b
pair_is d n a b = is_eq-then (nat_cmp d a) (nat_cmp n b) ∙ (λ i. same_number d a i && same_number n b i)

turned : (d n a b : ℕ) → b == n && a == d ≡ d == a && n == b
turned d n a b = grind (arith, nat_tests)

-- an incident is put: it is this incident view's, or changes nothing here
pub incident_put : (x : IncidentView) (i : Incident) (room : Room) (own : Bool)
    → own ≡ is_under x i.division i.number → IsIncidentViewOf x room
    → IsIncidentViewOf (record x { incident = cond own (Some i) x.incident })
    (apply_one room (PutIncident i))
incident_put x i room own is known = record {
  incident =
      rw (
        row_put pair_cmp incident_key pairs_total room.incidents i (x.division, x.number),
        pair_is x.division x.number i.division i.number,
        is,
        known.incident,
      ) refl;
  turns = known.turns;
}

-- a turn is put: it is this incident view's, or the one of its key is taken out
pub turn_put : (x : IncidentView) (t : Turn) (room : Room) (own : Bool)
    → own ≡ is_under x t.division t.incident → IsInOrder room → IsIncidentViewOf x room
    → IsIncidentViewOf (record x {
      turns = cond own (put_row numbered_cmp turn_key x.turns t)
          (drop_row numbered_cmp turn_key x.turns (turn_key t));
    }) (apply_one room (PutTurn t))
turn_put x t room own is in_order known = record {
  incident = known.incident;
  turns =
      pass_put numbered_cmp turn_key numbered_total (λ t. t.incident == x.number && t.division == x.division) x.turns
      room.turns t own (is ∙ sym (turned x.division x.number t.division t.incident)) in_order.turns known.turns;
}
