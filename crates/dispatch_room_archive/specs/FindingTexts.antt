-- What is wrong with a room's file, in words.
use Rattle.std.specs.Prelude.{List, codes, decimal, ℕ, ◌++◌}
use Rattle.room_types.specs.Codes.{status_number}
use Rattle.room_types.specs.Texts.{Callsign}
use Rattle.room_store_check_rows.specs.declared.disagreements.CallFault.TheVariants as call
use Rattle.room_store_check_rows.specs.declared.disagreements.CallFault.{CallFault}
use Rattle.room_store_check_rows.specs.declared.disagreements.Disagreement.TheVariants as row
use Rattle.room_store_check_rows.specs.declared.disagreements.Disagreement.{Disagreement}
use Rattle.room_store_check_rows.specs.declared.disagreements.IncidentFault.TheVariants as incident
use Rattle.room_store_check_rows.specs.declared.disagreements.IncidentFault.{IncidentFault}
use Rattle.room_store_check_rows.specs.declared.disagreements.ReportFault.TheVariants as report
use Rattle.room_store_check_rows.specs.declared.disagreements.ReportFault.{ReportFault}
use Rattle.room_store_check_rows.specs.declared.disagreements.TerminalFault.TheVariants as terminal
use Rattle.room_store_check_rows.specs.declared.disagreements.TerminalFault.{TerminalFault}
use Rattle.room_store_check_rows.specs.declared.disagreements.TurnFault.TheVariants as turn
use Rattle.room_store_check_rows.specs.declared.disagreements.TurnFault.{TurnFault}
use Rattle.room_store_check_rows.specs.declared.disagreements.VehicleFault.TheVariants as vehicle
use Rattle.room_store_check_rows.specs.declared.disagreements.VehicleFault.{VehicleFault}
use Rattle.room_store_file.specs.declared.examined_file.Wrong.TheVariants as wrong
use Rattle.room_store_file.specs.declared.examined_file.Wrong.{Wrong}

-- ---- the key of a row, and what is wrong with it
abbrev pub of_division : List ℕ → ℕ → ℕ → List ℕ → List ℕ
of_division what number division fault = what ++ (codes " " ++ (decimal number
    ++ (codes " of division " ++ (decimal division ++ (codes " " ++ fault)))))

abbrev pub of_vehicle : List ℕ → ℕ → Callsign → List ℕ → List ℕ
of_vehicle what number callsign fault = what ++ (codes " " ++ (decimal number
    ++ (codes " of vehicle " ++ (callsign ++ (codes " " ++ fault)))))

abbrev pub of_none : List ℕ → Callsign → List ℕ
of_none what callsign = what ++ (codes " is of no vehicle: " ++ callsign)

-- ---- what a row disagrees in
abbrev pub vehicle_text : VehicleFault → List ℕ
vehicle_text vehicle.Home = codes "is at home in no division of the plan"
vehicle_text vehicle.Holder = codes "is held by no division of the plan"
vehicle_text vehicle.NoLoan = codes "is away from home without a loan"
vehicle_text vehicle.Loan = codes "has a loan that is not from its home to its holder"
vehicle_text vehicle.NoOffer = codes "has no offer"
vehicle_text vehicle.Offer =
    codes "has an offer, which needs status 7, its home as lender, and another division"
vehicle_text vehicle.NoAssignment = codes "has no assignment"
vehicle_text vehicle.Assignment =
    codes "has an assignment, which needs status 2 to 5, its holder and its last order"
vehicle_text vehicle.NoTurn = codes "has no open turn of its last order"
vehicle_text vehicle.NoReport = codes "has no report of its last number"
vehicle_text vehicle.Post = codes "has a post, which needs status 1 or 6 and a point of its holder"

abbrev pub turn_text : TurnFault → List ℕ
turn_text turn.Division = codes "is of no division of the plan"
turn_text turn.Order = codes "is of an order that no vehicle was given"
turn_text turn.Open =
    codes "is open, which needs its vehicle at status 2 to 5 on that order for that division"
turn_text turn.Ended = codes "is ended, and its vehicle is at status 2 to 5 on that order"
turn_text turn.Incident = codes "is for another incident than the vehicle's assignment"
turn_text turn.NotActive = codes "is open and its incident is not active"

abbrev pub report_text : ReportFault → List ℕ
report_text report.Division = codes "is of no division of the plan"
report_text report.Number = codes "has a number above the last of its vehicle"

abbrev pub call_text : CallFault → List ℕ
call_text call.NoIncident = codes "no incident"
call_text call.Merged = codes "an incident that is merged"
call_text call.Early = codes "an incident that was opened later"

abbrev pub incident_text : IncidentFault → List ℕ
incident_text incident.Number = codes "has a number that its division did not give"
incident_text incident.NoCall = codes "has no call of the moment at which it was opened"

-- ---- the row and what it disagrees in
abbrev pub disagreement_text : Disagreement → List ℕ
disagreement_text (row.NoDivision number) =
    codes "division " ++ (decimal number ++ codes " of the plan has no row")
disagreement_text (row.Division number) =
    codes "division " ++ (decimal number ++ codes " has a row and is not in the plan")
disagreement_text (row.Point division number) =
    of_division (codes "point") number division (codes "is in no division of the plan")
disagreement_text (row.Vehicle callsign status fault) =
    codes "vehicle " ++ (callsign ++ (codes " is at status " ++ (decimal (status_number status)
    ++ (codes " and " ++ vehicle_text fault))))
disagreement_text (row.Loan callsign) = of_none (codes "a loan") callsign
disagreement_text (row.Offer callsign) = of_none (codes "an offer") callsign
disagreement_text (row.Assignment callsign) = of_none (codes "an assignment") callsign
disagreement_text (row.Turn callsign order fault) =
    of_vehicle (codes "turn") order callsign (turn_text fault)
disagreement_text (row.Report callsign number fault) =
    of_vehicle (codes "report") number callsign (report_text fault)
disagreement_text (row.Call position serial fault) =
    codes "call " ++ (decimal serial ++ (codes " of position " ++ (decimal position
    ++ (codes " is of " ++ call_text fault))))
disagreement_text (row.Incident division number fault) =
    of_division (codes "incident") number division (incident_text fault)

-- ---- what is wrong with the terminals
abbrev pub terminal_text : TerminalFault → List ℕ
terminal_text terminal.Token = codes "two terminals have one token"
terminal_text (terminal.TwoCrews callsign) =
    codes "vehicle " ++ (callsign ++ codes " has two crews' terminals")
terminal_text (terminal.NoCrew callsign) =
    codes "vehicle " ++ (callsign ++ codes " has no crew's terminal")
terminal_text (terminal.Crew callsign) = codes "a crew's terminal is of no vehicle: " ++ callsign
terminal_text (terminal.Desk division) =
    codes "a desk's terminal is of division " ++ (decimal division ++ codes ", not in the plan")

-- ---- what is wrong with the file
abbrev pub wrong_text : Wrong → List ℕ
wrong_text wrong.OldRoom = codes "version 1: migrate it"
wrong_text wrong.Tables = codes "its tables and indexes are not those of a room"
wrong_text wrong.NoPlan = codes "its areas and its zone make no plan, or two rows have one number"
wrong_text (wrong.Rows disagreement) = disagreement_text disagreement
wrong_text (wrong.Terminals fault) = terminal_text fault
wrong_text wrong.Memory = codes "memory was refused"
wrong_text wrong.Storage = codes "a row is not of its table, or the file can't be read"
