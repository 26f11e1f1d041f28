-- What the tests of all rows say of the row at each key.
use Rattle.std.specs.Bool.{Decides}
use Rattle.std.specs.List.{list_all}
use Rattle.std.specs.Ordering.{nat_cmp}
use Rattle.std.specs.Prelude.{IfSome, is_some, ◌&&◌, ◌||◌}
use Rattle.std.proofs.Common.{Bool, List, Some, false, refl, sym, true, ℕ, ◌≡◌}
use Rattle.std.proofs.lemmas.Bool.Decides.{Decides-and, Decides-eqb, Decides-like}
use Rattle.std.proofs.lemmas.Bool.{false≢true}
use Rattle.std.proofs.lemmas.Cmp.{nat_cmp_total}
use Rattle.room_place.specs.Plans.{has_division}
use Rattle.room_place.specs.declared.plans.Area.{Area}
use Rattle.room_types.specs.Codes.{is_merged}
use Rattle.room_types.specs.KeyedRows.{row_at}
use Rattle.room_types.specs.Keys.{assignment_key, call_key, callsign_cmp, division_key}
use Rattle.room_types.specs.Keys.{incident_key, loan_key, numbered_cmp, offer_key, pair_cmp}
use Rattle.room_types.specs.Keys.{point_key, report_key, turn_key, vehicle_key}
use Rattle.room_types.specs.KeyLemmas.{callsigns_total, exact_callsigns, exact_number}
use Rattle.room_types.specs.KeyLemmas.{exact_numbered, exact_pair, numbered_total, pairs_total}
use Rattle.room_types.specs.Slices.{assignment_at, division_at, vehicle_at}
use Rattle.room_types.specs.Texts.{Callsign}
use Rattle.room_types.specs.declared.slices.DivisionRows.{DivisionRows}
use Rattle.room_types.specs.declared.tables.Call.{Call}
use Rattle.room_types.specs.declared.tables.Incident.{Incident}
use Rattle.room_types.proofs.SentLaws.{itself}
use Rattle.room_model.specs.Room.{IsInOrder, Room}
use Rattle.room_model.specs.RoomSlices.{room_of}
use Rattle.room_model.specs.RoomAgreements.{CallAgrees, NumberAgrees, OpenedAgrees}
use Rattle.room_store_check_rows.specs.RowTests.{has_row, is_opened, loan_at, offer_at, opens}
use Rattle.room_store_check_rows.specs.RowTests.{rows_fit}
use Rattle.room_store_check_rows.proofs.Agreements.{each}
use Rattle.room_store_check_rows.proofs.PassingRows.{passed, passing}
use Rattle.room_store_check_rows.proofs.RowLaws.{ReportFits, TurnFits, VehicleFits, call_decides}
use Rattle.room_store_check_rows.proofs.RowLaws.{incident_decides, report_decides, three}
use Rattle.room_store_check_rows.proofs.RowLaws.{turn_decides, vehicle_decides}

kept_decides : {B : Type 0} (merged b : Bool) → Decides b B
    → Decides (merged || b) (merged ≡ false → B)
kept_decides true b d = (λ h e. absurd (false≢true (sym e)), λ f. refl)
kept_decides false b d = (λ h e. d.0 h, λ f. d.1 (f refl))

opens_decides : (i : Incident) (c : Call)
    → Decides (opens i c) ((c.division ≡ i.division) × (c.incident ≡ i.number) × (c.at ≡ i.opened))
opens_decides i c =
    Decides-like _ (λ h. (sym h.0, sym h.1, sym h.2)) (λ h. (sym h.0, sym h.1, sym h.2))
    (three _ _ _ (Decides-eqb _ _) (Decides-eqb _ _) (Decides-eqb _ _))

module _ (plan : List Area) (s : DivisionRows) where
  abbrev r : Room
  r = room_of plan s

  -- what the tests say of the row at each key
  pub record Fits : Type 0 where
    pub have_rows : list_all (has_row s) plan ≡ true
    pub divisions : (d : ℕ) → IfSome (division_at d s) (λ x. has_division plan d ≡ true)
    pub points : (k : ℕ × ℕ) → IfSome (row_at pair_cmp point_key s.points k)
        (λ p. has_division plan p.division ≡ true)
    pub vehicles : (c : Callsign) → IfSome (vehicle_at c s) (VehicleFits plan s c)
    pub loans : (c : Callsign) → IfSome (loan_at c s) (λ l. is_some (vehicle_at c s) ≡ true)
    pub offers : (c : Callsign) → IfSome (offer_at c s) (λ o. is_some (vehicle_at c s) ≡ true)
    pub assignments : (c : Callsign) → IfSome (assignment_at c s)
        (λ a. is_some (vehicle_at c s) ≡ true)
    pub turns : (k : Callsign × ℕ) → IfSome (row_at numbered_cmp turn_key s.turns k)
        (TurnFits plan s k)
    pub reports : (k : Callsign × ℕ) → IfSome (row_at numbered_cmp report_key s.reports k)
        (ReportFits plan s k)
    pub calls : (k : ℕ × ℕ) → IfSome (row_at pair_cmp call_key s.calls k)
        (λ c. CallAgrees r (Some c))
    pub numbers : (k : ℕ × ℕ) → IfSome (row_at pair_cmp incident_key s.incidents k)
        (λ i. NumberAgrees r (Some i))
    pub opened : (k : ℕ × ℕ) → IfSome (row_at pair_cmp incident_key s.incidents k)
        (λ i. OpenedAgrees r (Some i))

  pub opened_decides : IsInOrder r → (i : Incident)
      → Decides (is_opened s i) (OpenedAgrees r (Some i))
  opened_decides in_order i = kept_decides (is_merged i.state) _ (
    λ h. let found = passing pair_cmp call_key pairs_total exact_pair (opens i) s.calls in_order.calls h in
        record {
          position = found.row.position;
          serial = found.row.serial;
          first_call =
              found.row;
          there = found.there;
          same = (opens_decides i found.row).0 found.passes;
        },
    λ opening.
        (rw opening.there at (passed {R = Call} {K = ℕ × ℕ} pair_cmp call_key pairs_total exact_pair (opens i) s.calls
        (opening.position, opening.serial))) ((opens_decides i opening.first_call).1 opening.same),
  )

  pub fits_decides : IsInOrder r → Decides
      (rows_fit plan s && list_all (is_opened s) s.incidents) Fits
  fits_decides o = Decides-like _
      (λ h. record {
        have_rows = h.0.0.0;
        divisions = h.0.0.1.0;
        points = h.0.0.1.1;
        vehicles = h.0.1.0.0;
        loans = h.0.1.0.1.0;
        offers = h.0.1.0.1.1.0;
        assignments = h.0.1.0.1.1.1;
        turns = h.0.1.1.0;
        reports = h.0.1.1.1.0;
        calls = h.0.1.1.1.1.0;
        numbers = h.0.1.1.1.1.1;
        opened = h.1;
      })
      (λ h. (
        (
          (h.have_rows, (h.divisions, h.points)),
          ((h.vehicles, (h.loans, (h.offers, h.assignments))), (h.turns, (h.reports, (h.calls, h.numbers)))),
        ),
        h.opened,
      ))
      (Decides-and _ _
      (Decides-and _ _
      (Decides-and _ _ (itself _) (Decides-and _ _
      (each nat_cmp division_key nat_cmp_total exact_number _ (λ d x. has_division plan d ≡ true) (λ x. itself _)
      s.divisions o.divisions)
      (each pair_cmp point_key pairs_total exact_pair _ (λ k p. has_division plan p.division ≡ true) (λ p. itself _)
      s.points o.points)))
      (Decides-and _ _
      (Decides-and _ _ (each callsign_cmp vehicle_key callsigns_total exact_callsigns _ (VehicleFits plan s)
      (vehicle_decides plan s) s.vehicles o.vehicles)
      (Decides-and _ _ (each callsign_cmp loan_key callsigns_total exact_callsigns _
      (λ c l. is_some (vehicle_at c s) ≡ true) (λ l. itself _) s.loans o.loans)
      (Decides-and _ _ (each callsign_cmp offer_key callsigns_total exact_callsigns _
      (λ c l. is_some (vehicle_at c s) ≡ true) (λ l. itself _) s.offers o.offers)
      (each callsign_cmp assignment_key callsigns_total exact_callsigns _ (λ c l. is_some (vehicle_at c s) ≡ true)
      (λ l. itself _) s.assignments o.assignments))))
      (Decides-and _ _ (each numbered_cmp turn_key numbered_total exact_numbered _ (TurnFits plan s)
      (turn_decides plan s) s.turns o.turns)
      (Decides-and _ _ (each numbered_cmp report_key numbered_total exact_numbered _ (ReportFits plan s)
      (report_decides plan s) s.reports o.reports)
      (Decides-and _ _ (each pair_cmp call_key pairs_total exact_pair _ (λ k c. CallAgrees r (Some c))
      (call_decides plan s) s.calls o.calls)
      (each pair_cmp incident_key pairs_total exact_pair _ (λ k i. NumberAgrees r (Some i)) (incident_decides plan s)
      s.incidents o.incidents))))))
      (each pair_cmp incident_key pairs_total exact_pair _ (λ k i. OpenedAgrees r (Some i)) (opened_decides o)
      s.incidents o.incidents))
