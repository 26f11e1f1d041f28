-- The records of a text of CSV, and its rows under a header.
use Rattle.std.specs.Prelude.{◌≡◌, ℕ, List, [], ◌∷◌, length, All, IsUtf8}
use Rattle.csv.specs.Reading.{AreRecords, default_config, strip_bom}
use Rattle.csv.specs.Records.{AllText}
use Rattle.csv.specs.declared.error.ErrorKind.{ErrorKind}
use Rattle.csv.specs.declared.error.ErrorKind.TheVariants as kind
use Rattle.csv.specs.declared.parser.State.TheVariants.{StartRecord}
use Rattle.dispatch_room_csv.specs.declared.csv_records.RecordsFault.{RecordsFault}
use Rattle.dispatch_room_csv.specs.declared.csv_records.RecordsFault.TheVariants.{Input, Memory}

-- a record: the bytes of its fields
abbrev pub Fields : Type 0
Fields = List (List ℕ)

-- each has as many fields as the first
abbrev pub AreAlike : List Fields → Type 0
AreAlike [] = Unit {0}
AreAlike (first ∷ others) = All (λ other. length other ≡ length first) others

-- these are all records of a text, which is UTF-8, as their fields are, and they are alike
pub record IsTable (text : List ℕ) (records : List Fields) : Type 0 where
  pub utf8 : IsUtf8 text
  pub read : AreRecords default_config StartRecord (strip_bom text) records
  pub texts : All AllText records
  pub alike : AreAlike records

-- the rows of a text whose first record is the header
abbrev pub HasRows : Fields → List ℕ → List Fields → Type 0
HasRows header text rows = IsTable text (header ∷ rows)

-- only a record that breaks a rule of tables is a fault of the text
abbrev pub records_fault : ErrorKind → RecordsFault
records_fault (kind.UnequalLengths pos expected len) = Input
records_fault (kind.Utf8 pos err) = Input
records_fault (kind.Io err) = Memory
records_fault kind.OutOfMemory = Memory
records_fault (kind.Serialize why) = Memory
records_fault (kind.Deserialize pos err) = Memory

-- a text is refused as input only where it is no table
abbrev pub ExplainsRecords : List ℕ → RecordsFault → Type 0
ExplainsRecords text Input = (records : List Fields) → ¬ IsTable text records
ExplainsRecords text Memory = Unit {0}

-- the same of rows under a header
abbrev pub ExplainsRows : Fields → List ℕ → RecordsFault → Type 0
ExplainsRows header text Input = (rows : List Fields) → ¬ HasRows header text rows
ExplainsRows header text Memory = Unit {0}
