-- The terminals that a plan's or a fleet's file gives, and why a text gives none.
use Rattle.std.specs.List.{list_any}
use Rattle.std.specs.Prelude.{Bool, List, None, Option, Some, codes, false, filter_map, take, true}
use Rattle.std.specs.Prelude.{ℕ, ◌≡◌, ◌⊎◌}
use Rattle.std.specs.Str.{bytes_eq}
use Rattle.room_types.specs.declared.fleet.Terminal.{Terminal}
use Rattle.room_model.specs.FleetRows.{new_terminal}
use Rattle.dispatch_room_exit.specs.declared.exit_status.Failure.{Failure}
use Rattle.dispatch_room_exit.specs.declared.exit_status.Failure.TheVariants.{Input, Memory}
use Rattle.dispatch_room_csv.specs.CsvFaults.{fleet_failure, plan_failure}
use Rattle.dispatch_room_csv.specs.FleetFile.{ExplainsFleet, IsFleetText}
use Rattle.dispatch_room_csv.specs.PlanFile.{ExplainsPlan, IsPlanText}
use Rattle.dispatch_room_csv.specs.declared.fleet_file.FleetFileFault.{FleetFileFault}
use Rattle.dispatch_room_csv.specs.declared.fleet_file.FleetFileFault.TheVariants as fleet
use Rattle.dispatch_room_csv.specs.declared.fleet_file.FleetLine.{FleetLine}
use Rattle.dispatch_room_csv.specs.declared.fleet_file.FleetLine.TheVariants.{Bad, Row}
use Rattle.dispatch_room_csv.specs.declared.plan_file.PlanFile.{PlanFile}
use Rattle.dispatch_room_csv.specs.declared.plan_file.PlanFileFault.{PlanFileFault}

-- ---- why a text is no file
-- it gives no plan, for this
abbrev pub GivesNoPlan : List ℕ → Failure → Type 0
GivesNoPlan text fault =
    (why : PlanFileFault) × ExplainsPlan text why × (fault ≡ plan_failure why)

-- it gives no fleet, for this
abbrev pub GivesNoFleet : List ℕ → Failure → Type 0
GivesNoFleet text fault =
    (why : FleetFileFault) × ExplainsFleet text why × (fault ≡ fleet_failure why)

-- ---- the terminals that it gives
-- the crew's terminal of a good row
abbrev pub crew_of : FleetLine → Option Terminal
crew_of (Row row) = Some (new_terminal row)
crew_of Bad = None

-- a row has a field that is not of its form
abbrev pub is_bad : FleetLine → Bool
is_bad (Row row) = false
is_bad Bad = true

-- the terminals of a plan's text
abbrev pub AreOfPlan : List ℕ → List Terminal → Type 0
AreOfPlan text listed =
    (plan : PlanFile) × IsPlanText text plan × (listed ≡ plan.terminals.items)

-- the crews' terminals of a fleet's rows, none of which is bad
abbrev pub AreCrewsOf : List FleetLine → List Terminal → Type 0
AreCrewsOf lines listed = (list_any is_bad lines ≡ false) × (listed ≡ filter_map crew_of lines)

-- the terminals that a text gives: of a fleet the crews', or else those of a plan
abbrev pub AreGiven : List ℕ → List Terminal → Type 0
AreGiven text listed =
    ((lines : List FleetLine) × IsFleetText text lines × AreCrewsOf lines listed)
    ⊎ AreOfPlan text listed

-- a text begins as that of a fleet does
abbrev pub begins_as_fleet : List ℕ → Bool
begins_as_fleet text = bytes_eq (codes "callsign") (take 8 text)

-- rows of a fleet give no terminals: memory is refused, or one of them is bad
abbrev pub GiveNone : List FleetLine → Failure → Type 0
GiveNone lines fault = (fault ≡ Memory) ⊎ ((fault ≡ Input) × (list_any is_bad lines ≡ true))

-- Why a text gives none: memory is refused; or it is a fleet's, and its rows give none; or it is
-- none, and begins as one; or it is no plan's either.
abbrev pub GivesNone : List ℕ → Failure → Type 0
GivesNone text fault =
    (fault ≡ Memory)
    ⊎ ((lines : List FleetLine) × IsFleetText text lines × GiveNone lines fault)
    ⊎ (ExplainsFleet text fleet.Input × (begins_as_fleet text ≡ true) × (fault ≡ Input))
    ⊎ (ExplainsFleet text fleet.Input × (begins_as_fleet text ≡ false) × GivesNoPlan text fault)
