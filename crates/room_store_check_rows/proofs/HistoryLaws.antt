-- Beside the rows that are kept, a room is judged as it is in the whole of it.
use Rattle.std.specs.BTreeSet.{BTreeSet}
use Rattle.std.specs.Bool.{Decides}
use Rattle.std.specs.List.{list_all}
use Rattle.std.specs.Option.{option_or}
use Rattle.std.specs.Prelude.{IfSome, cond, is_none, is_some, nat_le, not, ◌&&◌, ◌||◌}
use Rattle.std.proofs.Common.{Bool, List, None, Option, Some, [], ap, eq-eqb, false, refl, subst}
use Rattle.std.proofs.Common.{sym, true, ℕ, ◌∙◌, ◌∷◌, ◌≡◌}
use Rattle.room_place.specs.Choice.{Among}
use Rattle.room_place.specs.Plans.{Layout}
use Rattle.room_place.specs.declared.plans.Area.{Area}
use Rattle.room_types.specs.Codes.{is_busy}
use Rattle.room_types.specs.Keys.{callsign_cmp, numbered_cmp, report_key, turn_key, vehicle_key}
use Rattle.room_types.specs.KeyLemmas.{callsigns_total, exact_numbered, numbered_total}
use Rattle.room_types.specs.declared.slices.DivisionRows.{DivisionRows}
use Rattle.room_types.specs.declared.tables.Report.{Report}
use Rattle.room_types.specs.declared.tables.Turn.{Turn}
use Rattle.room_types.specs.declared.tables.Vehicle.{Vehicle}
use Rattle.room_types.proofs.EachRow.{row_key}
use Rattle.room_types.proofs.KeyedLaws.{row_filter}
use Rattle.room_types.specs.KeyedRows.{keep, row_at}
use Rattle.room_model.proofs.Tests.{row_among}
use Rattle.room_model.specs.Room.{IsInOrder}
use Rattle.room_model.specs.RoomSlices.{room_of}
use Rattle.room_model.specs.RoomAgreements.{IsWellFormed}
use Rattle.room_store_check_rows.specs.FirstFaults.{call_disagreement, first_disagreement, first_of}
use Rattle.room_store_check_rows.specs.FirstFaults.{incident_disagreement, opening_fault}
use Rattle.room_store_check_rows.specs.FirstFaults.{report_disagreement, standing_disagreement}
use Rattle.room_store_check_rows.specs.FirstFaults.{turn_disagreement, uncalled_fault}
use Rattle.room_store_check_rows.specs.FirstFaults.{vehicle_disagreement}
use Rattle.room_store_check_rows.specs.RowTests.{has_last_report, has_open_turn, is_open}
use Rattle.room_store_check_rows.specs.declared.disagreements.Disagreement.{Disagreement}
use Rattle.room_store_check_rows.specs.HistoryChecks.{AreOpenings, histories_fit, is_last}
use Rattle.room_store_check_rows.specs.HistoryChecks.{is_last_report, kept, kept_disagreement}
use Rattle.room_store_check_rows.proofs.FaultLaws.{first_alike, none_detected}
use Rattle.room_store_check_rows.proofs.OpeningLaws.{uncalled_unopened}
use Rattle.room_store_check_rows.proofs.RowFaults.{search_detects}

-- ---- what is kept of the rows at a vehicle's last numbers
open_kept : (o : Option Turn) → is_open (keep (λ t. is_none t.ended) o) ≡ is_open o
open_kept None = refl
open_kept (Some t) =
    (elim (is_none t.ended) as (λ (b : Bool). is_none t.ended ≡ b → is_open (cond b (Some t) None) ≡ b) [
      | true ↦ λ q. q
      | false ↦ λ q. refl
    ]) refl

last_kept : (vehicles : List Vehicle) (v : Vehicle) (o : Option Report)
    → row_at callsign_cmp vehicle_key vehicles v.callsign ≡ Some v
    → IfSome o (λ x. report_key x ≡ (v.callsign, v.last_report))
    → is_some (keep (is_last vehicles) o) ≡ is_some o
last_kept vehicles v None there named = refl
last_kept vehicles v (Some x) there named =
    ap (λ b. is_some (cond b (Some x) None))
    (ap (λ c. is_last_report x.number (row_at callsign_cmp vehicle_key vehicles c)) (ap (λ k. k.0) named)
    ∙ ap (is_last_report x.number) there
    ∙ eq-eqb v.last_report x.number (sym (ap (λ k. k.1) named)))

module _ (plan : List Area) (s : DivisionRows) (o : IsInOrder (room_of plan s)) where
  turn_kept : (v : Vehicle) → has_open_turn (kept s) v ≡ has_open_turn s v
  turn_kept v = ap (λ b. not (is_busy v.status) || (nat_le 1 v.last_order && b))
      (ap is_open (row_filter numbered_cmp turn_key numbered_total (λ t. is_none t.ended) s.turns
      (v.callsign, v.last_order) o.turns) ∙ open_kept _)

  report_kept : (v : Vehicle) → Among v s.vehicles
      → has_last_report (kept s) v ≡ has_last_report s v
  report_kept v there = ap (λ b. not (nat_le 1 v.last_report) || b)
      (ap is_some (row_filter numbered_cmp report_key numbered_total (is_last s.vehicles) s.reports
      (v.callsign, v.last_report) o.reports)
      ∙ last_kept s.vehicles v _ (row_among callsign_cmp vehicle_key callsigns_total s.vehicles v o.vehicles there)
      (row_key numbered_cmp report_key numbered_total exact_numbered s.reports (v.callsign, v.last_report)))

  vehicle_kept : (v : Vehicle) → Among v s.vehicles
      → vehicle_disagreement plan (kept s) v ≡ vehicle_disagreement plan s v
  vehicle_kept v there = rw (turn_kept v, report_kept v there) refl

  standing_kept : standing_disagreement plan (kept s) ≡ standing_disagreement plan s
  standing_kept = rw (first_alike _ _ s.vehicles vehicle_kept) refl

-- ---- nothing is reported
none_or : {X : Type 0} (a b : Option X) → is_none (option_or a b) ≡ (is_none a && is_none b)
none_or None b = refl
none_or (Some x) b = refl

all_none : {R X : Type 0} (f : R → Option X) (rows : List R)
    → list_all (λ x. is_none (f x)) rows ≡ is_none (first_of f rows)
all_none f [] = refl
all_none f (x ∷ xs) = ap (λ b. is_none (f x) && b) (all_none f xs) ∙ sym (none_or (f x) (first_of f xs))

some_or_none : {X : Type 0} (o : Option X) → is_some o ≡ not (is_none o)
some_or_none None = refl
some_or_none (Some x) = refl

-- nothing is reported of the histories nor of the rest exactly where nothing is of all, one after
-- another
in_turn : {X : Type 0} (standing turn report call incident opening : Option X) →
    ((is_none turn && (is_none report && is_none call)) && is_none (option_or (option_or standing incident) opening))
    ≡ is_none (option_or (option_or (option_or (option_or (option_or standing turn) report) call) incident) opening)
in_turn (Some x) None None None i o = refl
in_turn (Some x) None None (Some l) i o = refl
in_turn (Some x) None (Some r) l i o = refl
in_turn (Some x) (Some t) r l i o = refl
in_turn None None None None i o = refl
in_turn None None None (Some l) i o = refl
in_turn None None (Some r) l i o = refl
in_turn None (Some t) r l i o = refl

module _ (layout : Layout) (s : DivisionRows) (o : IsInOrder (room_of layout.areas s)) where
  abbrev plan : List Area
  plan = layout.areas

  abbrev histories : Bool
  histories =
      is_none (first_of (turn_disagreement plan s) s.turns)
      && (is_none (first_of (report_disagreement plan s) s.reports)
      && is_none (first_of (call_disagreement s) s.calls))

  histories_shown : histories_fit plan s ≡ histories
  histories_shown =
      rw (
        all_none (turn_disagreement plan s) s.turns,
        all_none (report_disagreement plan s) s.reports,
        all_none (call_disagreement s) s.calls,
      ) refl

  abbrev rest : Option Disagreement → Option Disagreement → Option Disagreement
  rest standing opening = option_or (option_or standing (first_of (incident_disagreement s) s.incidents)) opening

  verdict_shown : (openings : BTreeSet (ℕ × ℕ × ℕ)) → AreOpenings s.calls openings
      → (histories_fit plan s && is_none (kept_disagreement plan (kept s) openings))
      ≡ is_none (first_disagreement plan s)
  verdict_shown openings are_openings =
      ap (λ b. b && is_none (kept_disagreement plan (kept s) openings)) histories_shown
      ∙ ap (λ a. histories && is_none (rest a (first_of (uncalled_fault openings) s.incidents)))
      (standing_kept plan s o)
      ∙ ap (λ a. histories && is_none (rest (standing_disagreement plan s) a))
      (uncalled_unopened s openings are_openings)
      ∙ in_turn (standing_disagreement plan s) _ _ _ _ (first_of (opening_fault s) s.incidents)

  -- histories that fit, and a rest in which nothing is wrong, are a well-formed room
  pub room_decides : (rows : DivisionRows) (openings : BTreeSet (ℕ × ℕ × ℕ)) (fits verdict : Bool)
      → rows ≡ kept s → AreOpenings s.calls openings → fits ≡ histories_fit plan s
      → verdict ≡ (fits && is_none (kept_disagreement plan rows openings))
      → Decides verdict (IsWellFormed (room_of plan s))
  room_decides rows openings fits verdict same are_openings fit is =
      let all : verdict ≡ is_none (first_disagreement plan s) =
      is
      ∙ ap (λ b. b && is_none (kept_disagreement plan rows openings)) fit
      ∙ ap (λ x. histories_fit plan s && is_none (kept_disagreement plan x openings)) same
      ∙ verdict_shown openings are_openings in
      subst (λ b. Decides b (IsWellFormed (room_of plan s))) (sym all)
      (none_detected (room_of plan s) (first_disagreement plan s) _ (some_or_none _) (search_detects layout s o))
