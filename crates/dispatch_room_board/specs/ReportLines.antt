-- A report of a vehicle: what an answer says of it, and its words.
use Rattle.std.specs.Prelude.{List, codes, if◌then◌else◌, ℕ, ◌%◌, ◌++◌, ◌==◌}
use Rattle.serde_json.specs.Data.{Data}
use Rattle.room_types.specs.Codes.{button_name, outcome_name}
use Rattle.dispatch_room_board.specs.BoardCells.{age_text, named_text, place_text}
use Rattle.dispatch_room_board.specs.Members.{HasMember, IsButton, IsLast, IsMoment, IsNumber}
use Rattle.dispatch_room_board.specs.Members.{IsOutcome, IsPlace}
use Rattle.dispatch_room_board.specs.declared.report_lines.ReportLine.{ReportLine}

-- what an answer calls the list of a vehicle's reports
abbrev pub reports_name : List ℕ
reports_name = codes "reports"

-- each field is what the member of its name says
pub record IsReportLine (d : Data) (row : ReportLine) : Type 0 where
  pub number : HasMember IsNumber (codes "number") d row.number
  pub button : HasMember IsButton (codes "button") d row.button
  pub outcome : HasMember IsOutcome (codes "outcome") d row.outcome
  pub order : HasMember IsLast (codes "order") d row.order
  pub place : HasMember IsPlace (codes "place") d row.place
  pub moment : HasMember IsMoment (codes "moment") d row.moment

-- the order that it speaks of
abbrev pub order_text : ℕ → List ℕ
order_text n = if n == 0 then codes "no order" else named_text (codes "order") n

-- its button, what came of it, its order, its place and its time of day
unfoldable pub report_text : ReportLine → List ℕ
report_text r =
    button_name r.button
    ++ codes ": " ++ outcome_name r.outcome
    ++ codes ", " ++ order_text r.order
    ++ codes ", " ++ place_text r.place
    ++ codes ", " ++ age_text (r.moment % 86400)
    ++ codes " GMT"
