-- A room's rows as bytes, from which they can be read back, and the digests of these.
use Rattle.std.specs.Prelude.{◌+◌, ◌/◌, ◌%◌, if◌then◌else◌, nat_le, ℕ, zero, suc, pos, negsuc, List}
use Rattle.std.specs.Prelude.{[], ◌∷◌, ◌++◌, length, map}
use Rattle.std.specs.List.{flat_map}
use Rattle.sha2.specs.Sha256.{sha256}
use Rattle.sqlite_value.specs.Order.{Row}
use Rattle.sqlite_value.specs.declared.value.Value.{Value}
use Rattle.sqlite_value.specs.declared.value.Value.TheVariants.{Null, Int, Real, Text, Blob}
use Rattle.room_model.specs.Room.{Room}
use Rattle.room_model.specs.declared.digests.Version.{Version}
use Rattle.room_model.specs.declared.digests.Version.TheVariants.{First, Second}
use Rattle.room_types.specs.declared.fleet.Terminal.{Terminal}
use Rattle.room_tables_rows.specs.AreaSql.{area_row}
use Rattle.room_tables_rows.specs.AssignmentSql.{assignment_row}
use Rattle.room_tables_rows.specs.CallSql.{call_row}
use Rattle.room_tables_rows.specs.DivisionSql.{division_row}
use Rattle.room_tables_rows.specs.IncidentSql.{incident_row}
use Rattle.room_tables_rows.specs.LoanSql.{loan_row}
use Rattle.room_tables_rows.specs.MetaSql.{meta_row}
use Rattle.room_tables_rows.specs.OfferSql.{offer_row}
use Rattle.room_tables_rows.specs.PointSql.{point_row}
use Rattle.room_tables_rows.specs.ReportSql.{report_row}
use Rattle.room_tables_rows.specs.RoomsInTables.{numbered}
use Rattle.room_tables_rows.specs.TerminalSql.{terminal_row}
use Rattle.room_tables_rows.specs.TurnSql.{turn_row}
use Rattle.room_tables_rows.specs.VehicleSql.{vehicle_row}

-- a number in groups of seven bits, so many at most before the last; each but the last has 128
-- added
abbrev pub groups : ℕ → ℕ → List ℕ
groups zero n = n ∷ []
groups (suc more) n = if nat_le 128 n then (128 + n % 128) ∷ groups more (n / 128) else n ∷ []

-- a number in groups of seven bits, the lowest first
unfoldable pub number_text : ℕ → List ℕ
number_text n = groups n n

-- a value: its kind, and what it holds; of a text and a blob the length stands before them. No row
-- of a room holds a real number.
abbrev pub value_text : Value → List ℕ
value_text Null = 0 ∷ []
value_text (Int (pos n)) = 1 ∷ number_text n
value_text (Int (negsuc n)) = 2 ∷ number_text n
value_text (Text t) = 3 ∷ number_text (length t) ++ t
value_text (Blob b) = 4 ∷ number_text (length b) ++ b
value_text (Real x) = 5 ∷ []

-- how many there are, and then each
abbrev pub list_text : {X : Type 0} → (X → List ℕ) → List X → List ℕ
list_text text xs = number_text (length xs) ++ flat_map text xs

-- the values of a row
abbrev pub row_text : Row → List ℕ
row_text row = list_text value_text row

-- the rows of a table
abbrev pub table_text : List Row → List ℕ
table_text rows = list_text row_text rows

-- the rows of each table but that of the zone, in the order of the tables
abbrev pub tables_of : List Terminal → Room → List (List Row)
tables_of terminals room =
    map area_row (numbered 1 room.plan)
    ∷ map terminal_row terminals
    ∷ map division_row room.divisions
    ∷ map incident_row room.incidents
    ∷ map call_row room.calls
    ∷ map vehicle_row room.vehicles
    ∷ map turn_row room.turns
    ∷ map assignment_row room.assignments
    ∷ map point_row room.points
    ∷ map loan_row room.loans
    ∷ map report_row room.reports
    ∷ map offer_row room.offers
    ∷ []

-- the rows of the tables of which the digest of a version is: the second has that of the zone too
abbrev pub tables_in : Version → List ℕ → List Terminal → Room → List (List Row)
tables_in First zone terminals room = tables_of terminals room
tables_in Second zone terminals room = (meta_row zone ∷ []) ∷ tables_of terminals room

-- a room's rows, table by table, of which the digest of a version is
unfoldable pub digest_text : Version → List ℕ → List Terminal → Room → List ℕ
digest_text version zone terminals room =
    flat_map table_text (tables_in version zone terminals room)

-- the digest of this version of a room
abbrev pub digest_of : Version → List ℕ → List Terminal → Room → List ℕ
digest_of version zone terminals room = sha256 (digest_text version zone terminals room)
