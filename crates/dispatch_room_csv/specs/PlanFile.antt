-- The plan that the rows of a file make, and why a text is no plan.
use Rattle.std.specs.Prelude.{◌≡◌, ℕ, zero, suc, List, [], ◌∷◌, codes, length, map, filter_map}
use Rattle.std.specs.Prelude.{true, false, Option, Some, None}
use Rattle.room_place.specs.declared.plans.Area.{Area}
use Rattle.room_types.specs.declared.fleet.Terminal.{Terminal}
use Rattle.dispatch_room_csv.specs.PlanLines.{plan_line_of}
use Rattle.dispatch_room_csv.specs.PlanRules.{AreKept, IsFirstRefused, has_zone_and_areas}
use Rattle.dispatch_room_csv.specs.Records.{Fields, HasRows}
use Rattle.dispatch_room_csv.specs.declared.csv_records.RecordsFault.{RecordsFault}
use Rattle.dispatch_room_csv.specs.declared.csv_records.RecordsFault.TheVariants as records
use Rattle.dispatch_room_csv.specs.declared.plan_lines.PlanLine.{PlanLine}
use Rattle.dispatch_room_csv.specs.declared.plan_lines.PlanLine.TheVariants as line
use Rattle.dispatch_room_csv.specs.declared.plan_file.PlanFile.{PlanFile}
use Rattle.dispatch_room_csv.specs.declared.plan_file.PlanFileFault.{PlanFileFault}
use Rattle.dispatch_room_csv.specs.declared.plan_file.PlanFileFault.TheVariants.{Input, Row, Memory}

-- the names over the columns
abbrev pub plan_header : Fields
plan_header = codes "what" ∷ codes "number" ∷ codes "a" ∷ codes "b" ∷ codes "c" ∷ codes "d" ∷ []

-- a text without records is reported as such
abbrev pub plan_fault_of : RecordsFault → PlanFileFault
plan_fault_of records.Input = Input
plan_fault_of records.Memory = Memory

-- the area of a row
abbrev pub area_in : PlanLine → Option Area
area_in (line.Area area) = Some area
area_in other = None

-- the terminal of a row
abbrev pub terminal_in : PlanLine → Option Terminal
terminal_in (line.Terminal terminal) = Some terminal
terminal_in other = None

-- the rule of a zone's row
abbrev pub rule_in : PlanLine → Option (List ℕ)
rule_in (line.Zone rule) = Some rule
rule_in other = None

-- rows that break no rule make a plan: their areas and terminals in their order, and the one zone
pub record IsPlanOf (lines : List PlanLine) (file : PlanFile) : Type 0 where
  pub counted : has_zone_and_areas lines ≡ true
  pub kept : AreKept lines (length lines)
  pub areas : file.plan.areas ≡ filter_map area_in lines
  pub zone : filter_map rule_in lines ≡ file.plan.zone ∷ []
  pub terminals : file.terminals.items ≡ filter_map terminal_in lines

-- rows are refused for the first that breaks a rule, counted from 1, and before that as a whole, by
-- 0; for memory where they break none
abbrev pub ExplainsLines : List PlanLine → PlanFileFault → Type 0
ExplainsLines lines Input = ⊥
ExplainsLines lines (Row zero) = has_zone_and_areas lines ≡ false
ExplainsLines lines (Row (suc at)) = (has_zone_and_areas lines ≡ true) × IsFirstRefused lines at
ExplainsLines lines Memory = (has_zone_and_areas lines ≡ true) × AreKept lines (length lines)

-- a text is a plan's file that makes this plan
abbrev pub IsPlanText : List ℕ → PlanFile → Type 0
IsPlanText text file =
    (rows : List Fields) × HasRows plan_header text rows × IsPlanOf (map plan_line_of rows) file

-- a text is refused as input where it is no table with the header, and else for its rows
abbrev pub ExplainsPlan : List ℕ → PlanFileFault → Type 0
ExplainsPlan text Input = (rows : List Fields) → ¬ HasRows plan_header text rows
ExplainsPlan text (Row k) = (rows : List Fields) × HasRows plan_header text rows
    × ExplainsLines (map plan_line_of rows) (Row k)
ExplainsPlan text Memory = Unit {0}
