-- The report of a division's day over two rooms, of which the newer one was made of the older one.
use Rattle.std.specs.Option.{option_or}
use Rattle.std.specs.Prelude.{IsSome, List, None, filter, map, true, false, ℕ, ◌≡◌, ◌⊎◌}
use Rattle.jiff.specs.Placed.{IsPosixZone}
use Rattle.jiff.specs.Words.{read_whole}
use Rattle.jiff_tz.specs.declared.timezone.TimeZone.{TimeZone}
use Rattle.sqlite.specs.Held.{Held, state}
use Rattle.sqlite_trees.specs.Tree.{Trees}
use Rattle.sqlite_trees.specs.declared.store.Store.{Ghosts}
use Rattle.room_place.specs.Plans.{Layout, has_division}
use Rattle.room_types.specs.KeyedRows.{IsKeyed, row_at}
use Rattle.room_types.specs.Keys.{incident_key, owns_incident, pair_cmp}
use Rattle.room_types.specs.declared.tables.Incident.{Incident}
use Rattle.room_http_time.specs.Dates.{day_of}
use Rattle.room_model.specs.DayTimes.{times_line}
use Rattle.room_model.specs.Queries.{incidents_opened}
use Rattle.room_model.specs.Room.{Room}
use Rattle.room_store_check_rows.specs.declared.summaries.Summary.{Summary}
use Rattle.room_store_check_tables.specs.HeldRooms.{HoldsRoom, WritesNothing}
use Rattle.room_store_file.specs.ExaminedFile.{IsSummaryOf}
use Rattle.dispatch_room_csv.specs.DayReport.{report_of}
use Rattle.dispatch_room_exit.specs.declared.exit_status.Failure.{Failure}
use Rattle.dispatch_room_exit.specs.declared.exit_status.Failure.TheVariants.{Day, Division, File}
use Rattle.dispatch_room_exit.specs.declared.exit_status.Failure.TheVariants.{Memory}
use Rattle.dispatch_room_archive.specs.Examination.{HasFault}
use Rattle.dispatch_room_archive.specs.TimesReport.{IsAskable, IsSpanOf}
use Rattle.dispatch_room_archive.specs.declared.division_days.DivisionDay.{DivisionDay}
use Rattle.room_tables_schema.specs.FileConnections.{IsClean}

-- ---- the day
-- the division's incidents in a room
abbrev pub incidents_in : ℕ → Room → List Incident
incidents_in d r = filter (owns_incident d) r.incidents

-- This is the day that a text writes, by the zone of a plan that has the division, with the
-- division's incidents in a room.
pub record IsDayOf (plan : Layout) (room : Room) (division : ℕ) (text : List ℕ)
    (day : DivisionDay) : Type 0 where
  pub has : has_division plan.areas division ≡ true
  pub zone : TimeZone
  pub of_plan : IsPosixZone plan.zone zone
  pub span : IsSpanOf zone text (day.from, day.to)
  pub of_division : day.division ≡ division
  pub incidents : day.incidents ≡ incidents_in division room

-- the same, in the well-formed room for which the tables stand
abbrev pub IsDayIn : Trees → ℕ → List ℕ → DivisionDay → Type 0
IsDayIn trees division text day =
    (holds : HoldsRoom trees) × IsDayOf holds.layout holds.room division text day

-- why there is no such day: the division is reported first, then a zone that is no rule, then the
-- day, and lack of memory only where the day can be asked for
abbrev pub ExplainsNoDay : Layout → ℕ → List ℕ → Failure → Type 0
ExplainsNoDay plan division text Division = has_division plan.areas division ≡ false
ExplainsNoDay plan division text File =
    (has_division plan.areas division ≡ true) × (¬ IsSome (read_whole plan.zone))
ExplainsNoDay plan division text Day = (has_division plan.areas division ≡ true)
    × IsSome (read_whole plan.zone) × (day_of text ≡ None)
ExplainsNoDay plan division text Memory =
    IsSome (read_whole plan.zone) × IsAskable plan.areas division text
ExplainsNoDay plan division text other = ⊥

-- The file holds a room that has no such day.
pub record HasNoDay {S : Type 0} (g : Ghosts S) (old new : Held S) (division : ℕ) (text : List ℕ)
    (failure : Failure) : Type 0 where
  pub plan : Layout
  pub summary : Summary
  pub holds : IsClean g new → IsSummaryOf (state g old).now.trees plan summary
  pub why : ExplainsNoDay plan division text failure

-- Why no day is found in a file, of which nothing is written: something is wrong with it, or its
-- room has no such day.
pub record LacksDay {S : Type 0} (g : Ghosts S) (old : Held S) (division : ℕ) (text : List ℕ)
    (failure : Failure) : Type 0 where
  pub released : Held S
  pub nothing : WritesNothing (state g old) (state g released)
  pub why : HasFault g old released failure ⊎ HasNoDay g old released division text failure

-- ---- both rooms
-- In the order of their numbers these are incidents of two rooms: all of the newer one, and of the
-- older one those that the newer one has not.
pub record AreOfBoth (newer older both : List Incident) : Type 0 where
  pub keyed : IsKeyed pair_cmp incident_key both
  pub rows : (k : ℕ × ℕ) → row_at pair_cmp incident_key both k
      ≡ option_or (row_at pair_cmp incident_key newer k) (row_at pair_cmp incident_key older k)

-- The report is of a newer room's day, in any room whose incidents are these of both.
pub record IsReportOfBoth (newer : DivisionDay) (older : List Incident)
    (report : List ℕ) : Type 0 where
  pub both : List Incident
  pub are : AreOfBoth newer.incidents older both
  pub says : (r : Room) → r.incidents ≡ both → report
      ≡ report_of (map times_line (incidents_opened newer.division newer.from newer.to r))

-- the older incidents are those of the well-formed room for which the tables stand
abbrev pub JoinsDay : Trees → DivisionDay → List ℕ → Type 0
JoinsDay trees newer report =
    (holds : HoldsRoom trees)
    × IsReportOfBoth newer (incidents_in newer.division holds.room) report

-- Why nothing is joined by a file, of which nothing is written: something is wrong with it, or
-- memory fails.
pub record JoinsNone {S : Type 0} (g : Ghosts S) (old : Held S) (failure : Failure) : Type 0 where
  pub released : Held S
  pub nothing : WritesNothing (state g old) (state g released)
  pub why : HasFault g old released failure ⊎ (failure ≡ Memory)
