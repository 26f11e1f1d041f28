-- What is reported of the rows of a fleet, and how much of an import is done by them.
use Rattle.std.specs.List.{list_all}
use Rattle.std.specs.Prelude.{Bool, List, [], None, Option, Some, codes, decimal, false, filter_map}
use Rattle.std.specs.Prelude.{if◌then◌else◌, true, ℕ, ◌+◌, ◌++◌, ◌∷◌}
use Rattle.room_types.specs.RefusalStatuses.{refusal_number}
use Rattle.room_types.specs.declared.fleet.FleetRow.{FleetRow}
use Rattle.room_types.specs.declared.fleet.RowFate.{RowFate}
use Rattle.room_types.specs.declared.fleet.RowFate.TheVariants.{Added, Refused, Same}
use Rattle.dispatch_room_csv.specs.declared.fleet_file.FleetLine.{FleetLine}
use Rattle.dispatch_room_csv.specs.declared.fleet_file.FleetLine.TheVariants.{Bad, Row}
use Rattle.dispatch_room_exit.specs.declared.exit_status.Done.{Done}
use Rattle.dispatch_room_exit.specs.declared.exit_status.Done.TheVariants.{InPart, Whole}

-- the vehicle of a good row
abbrev pub row_in : FleetLine → Option FleetRow
row_in (Row row) = Some row
row_in Bad = None

-- the good rows, in their order
abbrev pub good_rows : List FleetLine → List FleetRow
good_rows lines = filter_map row_in lines

-- what came of a line: none where it is bad, else its vehicle with its fate
abbrev pub Outcome : Type 0
Outcome = Option (FleetRow × RowFate)

-- What came of each line, by the fates of the good rows in their order. It ends at the first good
-- row that has no fate.
abbrev pub outcomes : List FleetLine → List RowFate → List Outcome
outcomes [] fates = []
outcomes (Bad ∷ lines) fates = None ∷ outcomes lines fates
outcomes (Row row ∷ lines) [] = []
outcomes (Row row ∷ lines) (fate ∷ fates) = Some (row, fate) ∷ outcomes lines fates

-- what is written of a vehicle after its callsign
abbrev pub fate_text : RowFate → List ℕ
fate_text Added = codes " added\n"
fate_text Same = codes " same\n"
fate_text (Refused refusal) = codes " refused " ++ decimal (refusal_number refusal) ++ codes "\n"

-- what is written of the line with this number, counted from 1
abbrev pub outcome_text : ℕ → Outcome → List ℕ
outcome_text number None = codes "row " ++ decimal number ++ codes " bad\n"
outcome_text number (Some (row, fate)) = row.callsign ++ fate_text fate

-- what is written of lines, of which the first has this number
abbrev pub text_from : ℕ → List Outcome → List ℕ
text_from number [] = []
text_from number (outcome ∷ others) = outcome_text number outcome ++ text_from (number + 1) others

-- what is written of the lines of a fleet
abbrev pub fates_text : List FleetLine → List RowFate → List ℕ
fates_text lines fates = text_from 1 (outcomes lines fates)

-- a vehicle is in the room afterwards, as its row has it
abbrev pub is_enrolled : RowFate → Bool
is_enrolled Added = true
is_enrolled Same = true
is_enrolled (Refused refusal) = false

-- the line is neither bad nor refused
abbrev pub is_kept : Outcome → Bool
is_kept None = false
is_kept (Some (row, fate)) = is_enrolled fate

-- an import is done in part where a line is bad or refused
abbrev pub done_by : List Outcome → Done
done_by others = if list_all is_kept others then Whole else InPart
