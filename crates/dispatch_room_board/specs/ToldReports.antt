-- The reports that are asked for beside a board: of which vehicles, what is told of them, and to
-- which entry of the queue each belongs.
use Rattle.std.specs.List.{list_any}
use Rattle.std.specs.Prelude.{Bool, Err, List, None, Ok, Option, Result, Some, [], codes}
use Rattle.std.specs.Prelude.{if◌then◌else◌, length, map, nat_le, ℕ, ◌&&◌, ◌++◌, ◌==◌, ◌||◌, ◌∷◌}
use Rattle.std.specs.Prelude.{◌≡◌}
use Rattle.serde_json.specs.Data.{Data}
use Rattle.room_types.specs.Keys.{same_callsign}
use Rattle.room_types.specs.Texts.{Callsign}
use Rattle.room_types.specs.declared.answers.QueueEntry.{QueueEntry}
use Rattle.room_types.specs.declared.ranks.Rank.{Rank}
use Rattle.room_types.specs.declared.ranks.Rank.TheVariants as rank
use Rattle.dispatch_room_board.specs.AnswerRows.{IsFound, IsList}
use Rattle.dispatch_room_board.specs.BoardRows.{IsQueueLine}
use Rattle.dispatch_room_board.specs.Members.{HasMember}
use Rattle.dispatch_room_board.specs.ReportLines.{IsReportLine, reports_name}
use Rattle.dispatch_room_board.specs.declared.board_errors.BoardError.{BoardError}
use Rattle.dispatch_room_board.specs.declared.queue_columns.QueueLine.{QueueLine}
use Rattle.dispatch_room_board.specs.declared.report_lines.ReportLine.{ReportLine}
use Rattle.dispatch_room_board.specs.declared.report_lines.VehicleReports.{VehicleReports}
use Rattle.dispatch_room_board.specs.declared.told_reports.TheConstants.{MOST_VEHICLES}
use Rattle.dispatch_room_board.specs.declared.told_reports.ToldReport.{ToldReport}

-- ---- of which vehicles
-- the vehicle of an entry, where it is for a report out of turn
abbrev pub vehicle_of_rank : Rank → Option Callsign → Option Callsign
vehicle_of_rank rank.OutOfTurn vehicle = vehicle
vehicle_of_rank other vehicle = None

abbrev pub vehicle_out_of_turn : QueueEntry → Option Callsign
vehicle_out_of_turn e = vehicle_of_rank e.rank e.callsign

-- one vehicle more, unless it is there, or there are enough
abbrev pub with_vehicle : List Callsign → Option Callsign → List Callsign
with_vehicle cs None = cs
with_vehicle cs (Some c) =
    if nat_le MOST_VEHICLES (length cs) || list_any (same_callsign c) cs then cs else cs ++ c ∷ []

abbrev pub with_vehicles : List Callsign → List QueueLine → List Callsign
with_vehicles cs [] = cs
with_vehicles cs (line ∷ lines) =
    with_vehicles (with_vehicle cs (vehicle_out_of_turn line.entry)) lines

-- those of the lines, each once, in their order
abbrev pub vehicles_in : List QueueLine → List Callsign
vehicles_in lines = with_vehicles [] lines

-- what an answer with the queue says
abbrev pub IsQueueAnswer : Data → List QueueLine → Type 0
IsQueueAnswer = HasMember (IsList IsQueueLine) (codes "queue")

-- those of the queue that an answer gives; none where it gives none
abbrev pub vehicles_of : Result (List QueueLine × ℕ) BoardError → List Callsign
vehicles_of (Ok found) = vehicles_in found.0
vehicles_of (Err why) = []

-- those of the queue that was heard first
abbrev pub AreVehiclesHeard : List ℕ → List Callsign → Type 0
AreVehiclesHeard heard vehicles =
    (found : Result (List QueueLine × ℕ) BoardError) × (rest : List ℕ)
    × IsFound IsQueueAnswer heard rest found × (vehicles ≡ vehicles_of found)

-- ---- what is told of them
-- what an answer with reports says
abbrev pub IsReportsAnswer : Data → VehicleReports → Type 0
IsReportsAnswer d given = HasMember (IsList IsReportLine) reports_name d given.reports

abbrev pub told_by : Callsign → ReportLine → ToldReport
told_by c report = record { callsign = c; report = report }

-- the reports of a vehicle that an answer gives; none where it gives none
abbrev pub told_of : Callsign → Result (VehicleReports × ℕ) BoardError → List ToldReport
told_of c (Ok found) = map (told_by c) found.0.reports
told_of c (Err why) = []

-- those of these vehicles, by one answer after another
abbrev pub AreTold : List Callsign → List ℕ → List ToldReport → Type 0
AreTold [] told reports = reports ≡ []
AreTold (c ∷ cs) told reports =
    (found : Result (VehicleReports × ℕ) BoardError) × (rest : List ℕ) × (more : List ToldReport)
    × IsFound IsReportsAnswer told rest found × AreTold cs rest more
    × (reports ≡ told_of c found ++ more)

-- ---- to which entries they belong
-- it is the vehicle's report of this number
abbrev pub is_report : Callsign → ℕ → ToldReport → Bool
is_report c n x = same_callsign x.callsign c && x.report.number == n

abbrev pub report_of : Callsign → ℕ → List ToldReport → Option ReportLine
report_of c n [] = None
report_of c n (x ∷ xs) = if is_report c n x then Some x.report else report_of c n xs

-- the report out of turn that an entry is for, where it is told
abbrev pub exception_of : Option Callsign → ℕ → List ToldReport → Option ReportLine
exception_of None n reports = None
exception_of (Some c) n reports = report_of c n reports

abbrev pub with_report : List ToldReport → QueueLine → QueueLine
with_report reports line = record {
  entry = line.entry;
  report = exception_of (vehicle_out_of_turn line.entry) line.entry.number reports;
}
