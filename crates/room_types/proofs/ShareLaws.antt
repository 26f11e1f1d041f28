-- The test of a division's rows says what they agree in.
use Rattle.std.proofs.Common.{true, ◌≡◌, ℕ, ◌≤◌, cond, Option, Some, None, refl, eq-eqb, arith}
use Rattle.std.specs.Prelude.{IfSome, ◌==◌, is_some, nat_le}
use Rattle.std.specs.List.{list_all}
use Rattle.std.specs.Bool.{Decides}
use Rattle.std.proofs.lemmas.Bool.{eqb-true, leb-true, le-leb}
use Rattle.std.proofs.lemmas.Bool.Decides.{Decides-and, Decides-like}
use Rattle.room_types.specs.Codes.{is_active}
use Rattle.room_types.specs.KeyedRows.{IsKeyed}
use Rattle.room_types.specs.Keys.{callsign_cmp, numbered_cmp, vehicle_key, turn_key, assignment_key}
use Rattle.room_types.specs.KeyLemmas.{callsigns_total, numbered_total, exact_callsigns}
use Rattle.room_types.specs.KeyLemmas.{exact_numbered}
use Rattle.room_types.specs.Slices.{AreOwned, IsShare, VehicleAgrees, AssignmentAgrees, TurnAgrees}
use Rattle.room_types.specs.Slices.{IsInTurn, are_owned, vehicle_agrees, is_active_if_any}
use Rattle.room_types.specs.Slices.{assignment_agrees, is_in_turn, turn_agrees, is_share}
use Rattle.room_types.specs.declared.slices.DivisionRows.{DivisionRows}
use Rattle.room_types.specs.declared.tables.Assignment.{Assignment}
use Rattle.room_types.specs.declared.tables.Incident.{Incident}
use Rattle.room_types.specs.declared.tables.Turn.{Turn}
use Rattle.room_types.specs.declared.tables.Vehicle.{Vehicle}
use Rattle.room_types.proofs.EachRow.{at_each_key, from_each_key}
use Rattle.room_types.proofs.SentLaws.{itself, parts_decide}

owned_decides : (d : ℕ) (s : DivisionRows) → Decides (are_owned d s) (AreOwned d s)
owned_decides d s = Decides-like _
    (λ h. record {
      divisions = h.0;
      incidents = h.1.0;
      calls = h.1.1.0;
      vehicles = h.1.1.1.0;
      turns = h.1.1.1.1.0;
      assignments = h.1.1.1.1.1.0;
      points = h.1.1.1.1.1.1.0;
      loans = h.1.1.1.1.1.1.1.0;
      offers = h.1.1.1.1.1.1.1.1.0;
      reports = h.1.1.1.1.1.1.1.1.1;
    })
    (λ h. (
      h.divisions,
      (h.incidents, (h.calls, (h.vehicles, (h.turns, (h.assignments, (h.points, (h.loans, (h.offers, h.reports)))))))),
    ))
    (Decides-and _ _ (itself _) (Decides-and _ _ (itself _) (Decides-and _ _ (itself _)
    (Decides-and _ _ (itself _) (Decides-and _ _ (itself _) (Decides-and _ _ (itself _)
    (Decides-and _ _ (itself _) (Decides-and _ _ (itself _) (Decides-and _ _ (itself _) (itself _))))))))))

active_decides : (i : Option Incident)
    → Decides (is_active_if_any i) (IfSome i (λ x. is_active x.state ≡ true))
active_decides None = (λ h. tt, λ h. refl)
active_decides (Some i) = itself _

order_decides : (n last : ℕ) (ended : Option ℕ)
    → Decides (cond (is_some ended) (nat_le n last) (n == last))
    ((n ≤ last) × (ended ≡ None → n ≡ last))
order_decides n last None =
    (λ h. let same : n ≡ last = eqb-true n last h in (omega (arith, same), λ e. same), λ h. eq-eqb n last (h.1 refl))
order_decides n last (Some at) = (λ h. (leb-true n last h, λ e. cc), λ h. le-leb n last h.0)

in_turn_decides : (t : Turn) (v : Option Vehicle) → Decides (is_in_turn t v) (IsInTurn t v)
in_turn_decides t None = (λ h. tt, λ h. refl)
in_turn_decides t (Some v) = order_decides t.order v.last_order t.ended

module _ (s : DivisionRows) where
  vehicle_decides : (v : Vehicle) → Decides (vehicle_agrees s v) (VehicleAgrees s v.callsign v)
  vehicle_decides v = parts_decide v _ _

  assignment_decides : (a : Assignment) → Decides (assignment_agrees s a) (AssignmentAgrees s a)
  assignment_decides a = active_decides _

  turn_decides : (t : Turn) → Decides (turn_agrees s t) (TurnAgrees s t.callsign t)
  turn_decides t = Decides-and _ _ (leb-true 1 t.order, le-leb 1 t.order) (in_turn_decides t _)

-- the four parts of the test
parts : (d : ℕ) (s : DivisionRows)
    → Decides (is_share d s) ((are_owned d s ≡ true)
    × ((list_all (vehicle_agrees s) s.vehicles ≡ true)
    × ((list_all (assignment_agrees s) s.assignments ≡ true)
    × (list_all (turn_agrees s) s.turns ≡ true))))
unfolding is_share
parts d s = Decides-and _ _ (itself _) (Decides-and _ _ (itself _) (Decides-and _ _ (itself _) (itself _)))

-- what a slice's test says
pub share_agrees : (d : ℕ) (s : DivisionRows) → is_share d s ≡ true → IsShare d s
share_agrees d s h =
    let tests = (parts d s).0 h in
    record {
      owned = (owned_decides d s).0 tests.0;
      vehicles =
          at_each_key callsign_cmp vehicle_key callsigns_total exact_callsigns _ (VehicleAgrees s) (vehicle_decides s)
          s.vehicles tests.1.0;
      assignments =
          at_each_key callsign_cmp assignment_key callsigns_total exact_callsigns _ (λ c. AssignmentAgrees s)
          (assignment_decides s) s.assignments tests.1.1.0;
      turns =
          λ c n.
          at_each_key numbered_cmp turn_key numbered_total exact_numbered _ (λ k t. TurnAgrees s k.0 t) (turn_decides s)
          s.turns tests.1.1.1 (c, n);
    }

pub share_decides : (d : ℕ) (s : DivisionRows) → IsKeyed callsign_cmp vehicle_key s.vehicles
    → IsKeyed callsign_cmp assignment_key s.assignments → IsKeyed numbered_cmp turn_key s.turns
    → Decides (is_share d s) (IsShare d s)
share_decides d s vehicles assignments turns = (
  share_agrees d s,
  λ h. (parts d s).1 (
    (owned_decides d s).1 h.owned,
    (
      from_each_key callsign_cmp vehicle_key callsigns_total exact_callsigns _ (VehicleAgrees s) (vehicle_decides s)
          s.vehicles vehicles h.vehicles,
      (
        from_each_key callsign_cmp assignment_key callsigns_total exact_callsigns _ (λ c. AssignmentAgrees s)
            (assignment_decides s) s.assignments assignments h.assignments,
        from_each_key numbered_cmp turn_key numbered_total exact_numbered _ (λ k t. TurnAgrees s k.0 t) (turn_decides s)
            s.turns turns (λ k. h.turns k.0 k.1),
      ),
    ),
  ),
)
