-- The rows of one vehicle, and what they agree in.
use Rattle.std.specs.Prelude.{◌≡◌, Bool, true, ◌&&◌, Option, Some, None, IfSome, is_none}
use Rattle.room_types.specs.Keys.{same_callsign}
use Rattle.room_types.specs.SentVehicles.{SentAgrees, sent_agrees}
use Rattle.room_types.specs.Texts.{Callsign}
use Rattle.room_types.specs.declared.crews.CrewRows.{CrewRows}
use Rattle.room_types.specs.declared.tables.Assignment.{Assignment}
use Rattle.room_types.specs.declared.tables.Loan.{Loan}
use Rattle.room_types.specs.declared.tables.Turn.{Turn}

-- the rows are one vehicle's, its turn is open, and they agree
pub record IsCrew (r : CrewRows) : Type 0 where
  pub assignment : IfSome r.assignment (λ a. a.callsign ≡ r.vehicle.callsign)
  pub turn : IfSome r.turn (λ t. (t.callsign ≡ r.vehicle.callsign) × (t.ended ≡ None))
  pub loan : IfSome r.loan (λ l. l.callsign ≡ r.vehicle.callsign)
  -- it has an assignment and an open turn exactly where it is busy
  pub sent : SentAgrees r.vehicle r.assignment r.turn

-- ---- the same as a test
abbrev pub passes : {R : Type 0} → (R → Bool) → Option R → Bool
passes p None = true
passes p (Some x) = p x

abbrev pub is_own_assignment : Callsign → Assignment → Bool
is_own_assignment c a = same_callsign a.callsign c

abbrev pub is_own_turn : Callsign → Turn → Bool
is_own_turn c t = same_callsign t.callsign c && is_none t.ended

abbrev pub is_own_loan : Callsign → Loan → Bool
is_own_loan c l = same_callsign l.callsign c

abbrev pub are_own : CrewRows → Bool
are_own r =
    passes (is_own_assignment r.vehicle.callsign) r.assignment
    && (passes (is_own_turn r.vehicle.callsign) r.turn
    && passes (is_own_loan r.vehicle.callsign) r.loan)

unfoldable pub is_crew : CrewRows → Bool
is_crew r = are_own r && sent_agrees r.vehicle r.assignment r.turn
