-- What each row of a fleet's file says, by its fields.
use Rattle.std.specs.Prelude.{◌≡◌, ℕ, List, [], ◌∷◌, codes, find, map, ◌==◌, Option, Some, None}
use Rattle.std.specs.Prelude.{option_and_then}
use Rattle.std.specs.Result.{result_ok}
use Rattle.room_place.specs.References.{parse}
use Rattle.room_types.specs.Codes.{kind_number}
use Rattle.room_types.specs.Texts.{callsign_of}
use Rattle.room_types.specs.declared.codes.Kind.{Kind}
use Rattle.room_types.specs.declared.codes.Kind.TheVariants.{Ambulance, Car, Support}
use Rattle.room_types.specs.declared.fleet.FleetRow.{FleetRow}
use Rattle.dispatch_room_csv.specs.RowFields.{number_of, text_at, token_of, whole_of}
use Rattle.dispatch_room_csv.specs.Records.{Fields, HasRows}
use Rattle.dispatch_room_csv.specs.declared.csv_records.RecordsFault.{RecordsFault}
use Rattle.dispatch_room_csv.specs.declared.csv_records.RecordsFault.TheVariants as records
use Rattle.dispatch_room_csv.specs.declared.fleet_file.FleetLine.{FleetLine}
use Rattle.dispatch_room_csv.specs.declared.fleet_file.FleetLine.TheVariants.{Row, Bad}
use Rattle.dispatch_room_csv.specs.declared.fleet_file.FleetFileFault.{FleetFileFault}
use Rattle.dispatch_room_csv.specs.declared.fleet_file.FleetFileFault.TheVariants.{Input, Memory}

-- the names over the columns
abbrev pub fleet_header : Fields
fleet_header =
    codes "callsign" ∷ codes "division" ∷ codes "kind" ∷ codes "place" ∷ codes "token" ∷ []

-- a text without records is reported as such
abbrev pub fleet_fault_of : RecordsFault → FleetFileFault
fleet_fault_of records.Input = Input
fleet_fault_of records.Memory = Memory

-- the kind of a number
abbrev pub kind_by : ℕ → Option Kind
kind_by n = find (λ kind. kind_number kind == n) (Ambulance ∷ Car ∷ Support ∷ [])

-- the kind whose number a text writes
abbrev pub kind_of : List ℕ → Option Kind
kind_of text = option_and_then kind_by (number_of text)

-- the vehicle of a row: callsign, division, kind, place and token, each of its form
abbrev pub fleet_row_of : Fields → Option FleetRow
fleet_row_of row =
    option_and_then (λ callsign. option_and_then
    (λ division. option_and_then (λ kind. option_and_then (λ place. option_and_then (λ token.
    Some (record {
      callsign = callsign;
      division = division;
      kind = kind;
      place = place;
      token =
          token;
    }))
    (token_of (text_at row 4))) (result_ok (parse (text_at row 3)))) (kind_of (text_at row 2)))
    (whole_of 1 9 (text_at row 1))) (callsign_of (text_at row 0))

abbrev pub fleet_line : Option FleetRow → FleetLine
fleet_line (Some row) = Row row
fleet_line None = Bad

-- what a row says
abbrev pub fleet_line_of : Fields → FleetLine
fleet_line_of row = fleet_line (fleet_row_of row)

-- a text is a fleet's file with these lines
abbrev pub IsFleetText : List ℕ → List FleetLine → Type 0
IsFleetText text lines =
    (rows : List Fields) × HasRows fleet_header text rows × (lines ≡ map fleet_line_of rows)

-- a text is refused as input only where it is no table with the header
abbrev pub ExplainsFleet : List ℕ → FleetFileFault → Type 0
ExplainsFleet text Input = (rows : List Fields) → ¬ HasRows fleet_header text rows
ExplainsFleet text Memory = Unit {0}
