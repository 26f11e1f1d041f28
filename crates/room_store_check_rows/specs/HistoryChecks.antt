-- Turns, reports and calls that are judged one at a time, and what is kept of a room meanwhile.
use Rattle.std.specs.BTreeSet.{BTreeSet, contains}
use Rattle.std.specs.List.{list_all, list_any}
use Rattle.std.specs.Option.{option_or}
use Rattle.std.specs.Ordering.{is_eq}
use Rattle.std.specs.Prelude.{◌≡◌, ℕ, Bool, false, List, [], Option, Some, None, ◌==◌, ◌&&◌, filter}
use Rattle.std.specs.Prelude.{is_none}
use Rattle.room_place.specs.declared.plans.Area.{Area}
use Rattle.room_types.specs.KeyedRows.{row_at}
use Rattle.room_types.specs.Keys.{callsign_cmp, vehicle_key}
use Rattle.room_types.specs.declared.slices.DivisionRows.{DivisionRows}
use Rattle.room_types.specs.declared.tables.Call.{Call}
use Rattle.room_types.specs.declared.tables.Report.{Report}
use Rattle.room_types.specs.declared.tables.Vehicle.{Vehicle}
use Rattle.room_store_check_rows.specs.FirstFaults.{call_disagreement, first_of}
use Rattle.room_store_check_rows.specs.FirstFaults.{incident_disagreement, report_disagreement}
use Rattle.room_store_check_rows.specs.FirstFaults.{standing_disagreement, uncalled_fault}
use Rattle.room_store_check_rows.specs.FirstFaults.{turn_disagreement}
use Rattle.room_store_check_rows.specs.RowTests.{opening_cmp, opening_of}
use Rattle.room_store_check_rows.specs.declared.disagreements.Disagreement.{Disagreement}

-- the number is that of the vehicle's last report
abbrev pub is_last_report : ℕ → Option Vehicle → Bool
is_last_report n None = false
is_last_report n (Some v) = v.last_report == n

-- the report is the last of its vehicle
abbrev pub is_last : List Vehicle → Report → Bool
is_last vehicles x = is_last_report x.number (row_at callsign_cmp vehicle_key vehicles x.callsign)

-- What the rest of a room is judged by: of turns those that are open, of reports the last of each
-- vehicle, of calls none.
abbrev pub kept : DivisionRows → DivisionRows
kept s = record s {
  calls = [];
  turns = filter (λ t. is_none t.ended) s.turns;
  reports = filter
      (is_last s.vehicles) s.reports;
}

-- every turn, report and call agrees with the rows that are kept
abbrev pub histories_fit : List Area → DivisionRows → Bool
histories_fit plan s =
    list_all (λ t. is_none (turn_disagreement plan (kept s) t)) s.turns
    && (list_all (λ x. is_none (report_disagreement plan (kept s) x)) s.reports
    && list_all (λ c. is_none (call_disagreement (kept s) c)) s.calls)

-- the set has just what these calls give
abbrev pub AreOpenings : List Call → BTreeSet (ℕ × ℕ × ℕ) → Type 0
AreOpenings calls openings = (x : ℕ × ℕ × ℕ)
    → contains opening_cmp openings x ≡ list_any (λ c. is_eq (opening_cmp x (opening_of c))) calls

-- what is wrong first with the rows that are kept, but for the turns, reports and calls of them
abbrev pub kept_disagreement : List Area → DivisionRows → BTreeSet (ℕ × ℕ × ℕ) → Option Disagreement
kept_disagreement plan s openings = option_or (option_or
    (standing_disagreement plan s)
    (first_of (incident_disagreement s) s.incidents))
    (first_of (uncalled_fault openings) s.incidents)
