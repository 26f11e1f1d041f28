-- The report of a division's day.
use Rattle.std.specs.Prelude.{IfErr, IfOk, IsSome, List, None, Ok, Result, Some, Vec, [], false}
use Rattle.std.specs.Prelude.{map, pos, true, ℕ, ℤ, ◌≡◌}
use Rattle.std.specs.Global.{Global}
use Rattle.jiff.specs.Placed.{IsPosixZone}
use Rattle.jiff_core.specs.Calendar.{days_from_civil}
use Rattle.jiff_tz.specs.declared.timezone.TimeZone.{TimeZone}
use Rattle.sqlite.specs.Held.{Held}
use Rattle.sqlite_trees.specs.declared.store.Store.{Ghosts}
use Rattle.room_place.specs.Plans.{has_division}
use Rattle.room_place.specs.declared.plans.Area.{Area}
use Rattle.room_types.specs.declared.answers.Answer.{Answer}
use Rattle.room_types.specs.declared.answers.Answer.TheVariants as answer
use Rattle.room_types.specs.declared.fleet.Terminal.{Terminal}
use Rattle.room_types.specs.declared.refusal_statuses.Refusal.{Refusal}
use Rattle.room_http_time.specs.Dates.{Date, day_of}
use Rattle.room_http_time.specs.Days.{IsSpan}
use Rattle.room_model.specs.DayTimes.{times_line}
use Rattle.room_model.specs.Queries.{incidents_opened}
use Rattle.room_model.specs.Room.{Room}
use Rattle.room_store.specs.StoredRoom.{IsRoom}
use Rattle.room_store.specs.declared.store.Store.{Store}
use Rattle.dispatch_room_exit.specs.declared.exit_status.Failure.{Failure}
use Rattle.dispatch_room_exit.specs.declared.exit_status.Failure.TheVariants.{Day, Division, Memory}
use Rattle.dispatch_room_exit.specs.declared.exit_status.Failure.TheVariants.{Storage}
use Rattle.dispatch_room_csv.specs.DayReport.{report_of}
use Rattle.dispatch_room_tasks.specs.OpenedRoom.{IsOpened}

-- the seconds, in a zone, of the day that a text writes
abbrev pub IsSpanOf : TimeZone → List ℕ → ℤ × ℤ → Type 0
IsSpanOf zone text span =
    (date : Date) × (day_of text ≡ Some date)
    × IsSpan zone (days_from_civil (pos date.year) date.month date.day) span

-- the report of an answer; only the times of a day have one
abbrev pub report_in : Result Answer Refusal → List ℕ
report_in (Ok (answer.Times times)) = report_of times.lines
report_in other = []

-- the report is of the incidents of the division that were opened on the day
abbrev pub IsDayReport : TimeZone → ℕ → List ℕ → Room → List ℕ → Type 0
IsDayReport zone division day room report =
    (span : ℤ × ℤ) × IsSpanOf zone day span
    × (report ≡ report_of (map times_line (incidents_opened division span.0 span.1 room)))

-- there can be a report: the plan has the division, and the text writes a day
pub record IsAskable (areas : List Area) (division : ℕ) (day : List ℕ) : Type 0 where
  pub has : has_division areas division ≡ true
  pub is_day : IsSome (day_of day)

-- why there is none: the division is reported first, then the day, and a failing machine only where
-- both can be asked for
abbrev pub ExplainsReport : List Area → ℕ → List ℕ → Failure → Type 0
ExplainsReport areas division day Division = has_division areas division ≡ false
ExplainsReport areas division day Day = (has_division areas division ≡ true) × (day_of day ≡ None)
ExplainsReport areas division day Memory = IsAskable areas division day
ExplainsReport areas division day Storage = IsAskable areas division day
ExplainsReport areas division day other = ⊥

-- The report is of the room of a database, by the zone of its plan, and leaves it as it was; or it
-- says why there is none.
pub record HasReported {S : Type 0} (g : Ghosts S) (old new : Held S) (division : ℕ) (day : List ℕ)
    (done : Result (Vec ℕ Global) Failure) : Type 0 where
  pub opened : Store S
  pub closed : Store S
  pub conn : closed.conn ≡ new
  pub terminals : List Terminal
  pub room : Room
  pub is : IsOpened g old opened terminals room
  pub still : IsRoom g closed terminals room
  pub zone : TimeZone
  pub of_plan : IsPosixZone opened.plan.zone zone
  pub report : IfOk done (λ report. IsDayReport zone division day room report.items)
  pub fault : IfErr done (ExplainsReport opened.plan.areas division day)
