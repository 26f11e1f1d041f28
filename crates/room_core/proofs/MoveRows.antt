-- A move is decided by what it asks of the rows.
use Rattle.std.proofs.Common.{ap, subst, sym, ◌∙◌}
use Rattle.std.specs.Prelude.{Bool, None, Option, Result, Some, false, not, refl, true, ℕ, ◌≡◌}
use Rattle.room_types.specs.Codes.{is_mobilised}
use Rattle.room_types.specs.Texts.{Callsign}
use Rattle.room_types.specs.declared.asks.Move.{Move}
use Rattle.room_types.specs.declared.codes.Kind.{Kind}
use Rattle.room_types.specs.declared.decisions.Decision.{Decision}
use Rattle.room_types.specs.declared.refusal_statuses.Refusal.{Refusal}
use Rattle.room_types.specs.declared.tables.Loan.{Loan}
use Rattle.room_types.specs.declared.tables.Turn.{Turn}
use Rattle.room_types.specs.declared.tables.Vehicle.{Vehicle}
use Rattle.room_model.proofs.DecisionLaws.{by_refuse}
use Rattle.room_model.specs.Decisions.{Verdict, refuse_if, where_active, where_held}
use Rattle.room_model.specs.Queries.{held, incident_of, lent, open_turn, served}
use Rattle.room_model.specs.Room.{Room}
use Rattle.room_model.specs.Step.{ask_for, ask_of, single_asks}
use Rattle.room_model.specs.Vehicles.{mobilise, mobilise_held, stand_down, stand_down_held}
use Rattle.room_model.specs.Moves.{HasMove}

-- the turn of a vehicle that is not on its way is not asked for
stood_alike : (at : ℕ) (t u : Option Turn) (v : Vehicle) (b : Bool) → is_mobilised v.status ≡ b
    → (b ≡ true → t ≡ u) → stand_down_held at t v ≡ stand_down_held at u v
unfolding refuse_if
stood_alike at t u v true is e = ap (λ x. stand_down_held at x v) (e refl)
stood_alike at t u v false is e = rw is refl

held_alike : (at : ℕ) (t u : Option Turn) (o : Option Vehicle) (l : Option Loan)
    → ((v : Vehicle) → o ≡ Some v → is_mobilised v.status ≡ true → t ≡ u)
    → where_held o l (stand_down_held at t) ≡ where_held o l (stand_down_held at u)
held_alike at t u None l e = refl
held_alike at t u (Some v) l e = stood_alike at t u v (is_mobilised v.status) refl (e v refl)

module _ (d : ℕ) (rows r : Room) (at : ℕ) where
  mobilise_by : (n : ℕ) (c : Callsign) → held d c rows ≡ held d c r → lent d c rows ≡ lent d c r
      → incident_of d n rows ≡ incident_of d n r
      → ((k : Kind) → served d n k rows ≡ served d n k r)
      → mobilise d n c at rows ≡ mobilise d n c at r
  unfolding mobilise
  mobilise_by n c vehicle loan incident serves =
      ap (λ x. where_active x (mobilise_held d (held d c rows) (lent d c rows) at (λ k. served d n k rows)))
      incident
      ∙ ap (λ x. where_active (incident_of d n r) (mobilise_held d x (lent d c rows) at (λ k. served d n k rows)))
      vehicle
      ∙ ap (λ x. where_active (incident_of d n r) (mobilise_held d (held d c r) x at (λ k. served d n k rows)))
      loan
      ∙ ap (λ (x : Kind → ℕ). where_active (incident_of d n r) (mobilise_held d (held d c r) (lent d c r) at x))
      (λ j k. serves k j)

  stand_down_by : (c : Callsign) → held d c rows ≡ held d c r → lent d c rows ≡ lent d c r
      → ((v : Vehicle) → held d c r ≡ Some v → is_mobilised v.status ≡ true
      → open_turn d c rows ≡ open_turn d c r)
      → stand_down d c at rows ≡ stand_down d c at r
  unfolding stand_down
  stand_down_by c vehicle loan turn =
      ap (λ x. where_held x (lent d c rows) (stand_down_held at (open_turn d c rows))) vehicle
      ∙ ap (λ x. where_held (held d c r) x (stand_down_held at (open_turn d c rows))) loan
      ∙ held_alike at _ _ (held d c r) (lent d c r) turn

  pub sent_by : {result : Verdict} (m : Move) (n : ℕ) → m.incident ≡ Some n → HasMove d m rows r
      → result ≡ mobilise d n m.callsign at rows → result ≡ single_asks d (ask_of m) at r
  sent_by m n is has decides =
      decides
      ∙ mobilise_by n m.callsign has.vehicle has.loan (has.incident n is) (λ k. has.served n k is)
      ∙ ap (λ o. single_asks d (ask_for m.callsign o) at r) (sym is)

  pub stood_down_by : {result : Verdict} (m : Move) → m.incident ≡ None → HasMove d m rows r
      → result ≡ stand_down d m.callsign at rows → result ≡ single_asks d (ask_of m) at r
  stood_down_by m is has decides =
      decides
      ∙ stand_down_by m.callsign has.vehicle has.loan (λ v found on. has.turn v is found on)
      ∙ ap (λ o. single_asks d (ask_for m.callsign o) at r) (sym is)
