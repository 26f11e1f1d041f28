-- The report of a day as CSV.
use Rattle.std.specs.Prelude.{ℕ, List, [], ◌++◌, codes, decimal, flat_map, Option, Some, None}
use Rattle.room_types.specs.declared.answers.TimesLine.{TimesLine}

-- seconds, or nothing
abbrev pub seconds_text : Option ℕ → List ℕ
seconds_text None = []
seconds_text (Some seconds) = decimal seconds

-- an incident's line: its number, when it was opened, and how long the first order took
abbrev pub report_line : TimesLine → List ℕ
report_line line =
    decimal line.number ++ codes "," ++ decimal line.opened ++ codes ","
    ++ seconds_text line.activation ++ codes "\n"

-- the header, and a line an incident
abbrev pub report_of : List TimesLine → List ℕ
report_of lines = codes "incident,opened,activation\n" ++ flat_map report_line lines
