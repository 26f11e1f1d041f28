-- What a request reads beside the fleet, where it reads nothing else.
use Rattle.std.proofs.Common.{ap, refl, sym, true, ℕ, ◌&&◌, ◌∙◌, ◌≡◌, ◌||◌}
use Rattle.std.specs.Prelude.{◌==◌}
use Rattle.room_types.specs.Keys.{owns_report}
use Rattle.room_types.specs.declared.asks.Ask.{Ask}
use Rattle.room_store_cache.specs.declared.history_rows.HistoryRows.{HistoryRows}
use Rattle.room_model.specs.Room.{Room}
use Rattle.room_model.specs.WorkingRows.{names_turn, reads_calls, reads_incident, reads_number}
use Rattle.room_model.specs.WorkingRows.{reads_report}
use Rattle.room_store_cache.proofs.Filters.{and_none}
use Rattle.room_store_cache.specs.HistoryRows.{AreHistoryRows}
use Rattle.room_store_reads.proofs.ReadFilters.{filter_never}
use Rattle.room_store_reads.proofs.Selected.{incident_is, number_is, report_is}
use Rattle.room_store_reads.specs.Partitions.{IsOfFleet}
use Rattle.room_store_reads.specs.RequestReads.{Selects, is_of_fleet, is_read, is_report}
use Rattle.room_store_reads.specs.RequestReads.{is_turn_of, reads_turns}
use Rattle.room_store_reads.specs.declared.request_reads.Incidents.{Incidents}
use Rattle.room_store_reads.specs.declared.request_reads.Incidents.TheVariants as incidents
use Rattle.room_store_reads.specs.declared.request_reads.Reads.{Reads}
use Rattle.room_store_reads.specs.declared.request_reads.Reports.{Reports}
use Rattle.room_store_reads.specs.declared.request_reads.Reports.TheVariants as reports
use Rattle.room_store_reads.specs.declared.request_reads.Turns.{Turns}
use Rattle.room_store_reads.specs.declared.request_reads.Turns.TheVariants as turns

-- no incident, no report and no turn
all_nothing : (x : Incidents) (y : Reports) (z : Turns) → is_of_fleet x y z ≡ true
    → (x ≡ incidents.Nothing) × (y ≡ reports.Nothing) × (z ≡ turns.Nothing)
all_nothing incidents.Nothing reports.Nothing turns.Nothing is = (refl, refl, refl)
all_nothing incidents.Nothing reports.Nothing (turns.Last c) is = absurd (cc)
all_nothing incidents.Nothing reports.Nothing (turns.Merged n) is = absurd (cc)
all_nothing incidents.Nothing reports.Nothing (turns.Of c) is = absurd (cc)
all_nothing incidents.Nothing reports.Uncleared z is = absurd (cc)
all_nothing incidents.Nothing (reports.One r) z is = absurd (cc)
all_nothing incidents.Nothing (reports.Of c) z is = absurd (cc)
all_nothing incidents.Active y z is = absurd (cc)
all_nothing (incidents.Opened from to) y z is = absurd (cc)
all_nothing (incidents.Near form) y z is = absurd (cc)
all_nothing (incidents.One n) y z is = absurd (cc)
all_nothing (incidents.Two n m) y z is = absurd (cc)

-- a request that reads nothing but the fleet reads nothing beside it
pub are_of_fleet : (d : ℕ) (a : Ask) (at : ℕ) (room : Room) (x : HistoryRows) (reads : Reads)
    → IsOfFleet x → Selects d a reads
    → is_of_fleet reads.incidents reads.reports reads.turns ≡ true → AreHistoryRows d a at room x
are_of_fleet d a at room x reads only selects is =
    let none = all_nothing reads.incidents reads.reports reads.turns is in
    let number = λ (n : ℕ).
    sym (number_is selects room n) ∙ ap (λ y. reads_turns d y room n) none.0 in
    record {
      incidents = only.incidents
          ∙ sym (filter_never (λ i. i.division == d) (λ i. reads_incident a at i) room.incidents
          (λ i. sym (incident_is selects at i) ∙ ap (λ y. is_read y at i) none.0));
      calls = only.calls
          ∙ sym (filter_never (λ c. c.division == d)
          (λ c. reads_calls a && reads_number d a room c.incident) room.calls
          (λ c. ap (λ b. reads_calls a && b) (number c.incident) ∙ and_none (reads_calls a)));
      turns = only.turns
          ∙ sym (filter_never (λ t. t.division == d)
          (λ t. reads_number d a room t.incident || names_turn d a room t) room.turns
          (λ t. (λ j. number t.incident j || selects.turn room t j)
          ∙ ap (λ y. is_turn_of d y room t) none.2));
      reports = only.reports
          ∙ sym (filter_never (owns_report d) (λ y. reads_report a y) room.reports
          (λ y. sym (report_is selects y) ∙ ap (λ z. is_report z y) none.1));
    }
