-- What came of an incident: what its history says, and what is shown of it.
use Rattle.std.specs.Prelude.{ℕ, List, [], ◌∷◌, ◌++◌, codes, decimal, ◌==◌, if◌then◌else◌, Bool}
use Rattle.std.specs.Prelude.{true, false, Option, None, Some}
use Rattle.serde_json.specs.Data.{Data}
use Rattle.dispatch_room_board.specs.declared.call_columns.CallLine.{CallLine}
use Rattle.dispatch_room_board.specs.declared.cell_layout.Column.{Column}
use Rattle.dispatch_room_board.specs.declared.cell_layout.Column.TheVariants.{Left, Right}
use Rattle.dispatch_room_board.specs.declared.history_lines.History.{History}
use Rattle.dispatch_room_board.specs.declared.board_pages.Paint.TheVariants.{Plain, Title}
use Rattle.dispatch_room_board.specs.declared.summary_columns.IncidentSummary.{IncidentSummary}
use Rattle.dispatch_room_board.specs.declared.turn_columns.TurnLine.{TurnLine}
use Rattle.dispatch_room_board.specs.BoardCells.{after_text, counts_text, named_text, place_text}
use Rattle.dispatch_room_board.specs.BoardCells.{served_text, since_any_text, since_text}
use Rattle.dispatch_room_board.specs.CellLayout.{row_of}
use Rattle.dispatch_room_board.specs.AnswerRows.{IsList}
use Rattle.dispatch_room_board.specs.Members.{HasMember, IsBool, IsByte, IsCallsign, IsClass}
use Rattle.dispatch_room_board.specs.Members.{IsKind, IsMoment, IsNeeds, IsNote, IsNumber, IsOrNull}
use Rattle.dispatch_room_board.specs.Members.{IsPlace, IsPosition, IsServed}
use Rattle.dispatch_room_board.specs.Pages.{line_of, spaced_line, text_line}
use Rattle.dispatch_room_board.specs.BoardTables.{Table, table_lines}

-- ---- what it says: each field is what the member of its name says
pub record IsSummary (d : Data) (row : IncidentSummary) : Type 0 where
  pub number : HasMember IsNumber (codes "number") d row.number
  pub state : HasMember IsByte (codes "state") d row.state
  pub into : HasMember (IsOrNull IsNumber) (codes "into") d row.into
  pub class : HasMember IsClass (codes "class") d row.class
  pub place : HasMember IsPlace (codes "place") d row.place
  pub needs : HasMember IsNeeds (codes "needs") d row.needs
  pub served : HasMember IsServed (codes "served") d row.served
  pub opened : HasMember IsMoment (codes "opened") d row.opened
  pub first_order : HasMember (IsOrNull IsMoment) (codes "first_order") d row.first_order

pub record IsCallLine (d : Data) (row : CallLine) : Type 0 where
  pub position : HasMember IsPosition (codes "position") d row.position
  pub serial : HasMember IsNumber (codes "serial") d row.serial
  pub linked : HasMember IsBool (codes "linked") d row.linked
  pub place : HasMember IsPlace (codes "place") d row.place
  pub class : HasMember IsClass (codes "class") d row.class
  pub needs : HasMember IsNeeds (codes "needs") d row.needs
  pub moment : HasMember IsMoment (codes "moment") d row.moment
  pub note : HasMember IsNote (codes "note") d row.note

pub record IsTurnLine (d : Data) (row : TurnLine) : Type 0 where
  pub callsign : HasMember IsCallsign (codes "vehicle") d row.callsign
  pub kind : HasMember IsKind (codes "kind") d row.kind
  pub order : HasMember IsNumber (codes "order") d row.order
  pub ordered : HasMember IsMoment (codes "ordered") d row.ordered
  pub acknowledged : HasMember (IsOrNull IsMoment) (codes "acknowledged") d row.acknowledged
  pub scene : HasMember (IsOrNull IsMoment) (codes "scene") d row.scene
  pub left : HasMember (IsOrNull IsMoment) (codes "left") d row.left
  pub hospital : HasMember (IsOrNull IsMoment) (codes "hospital") d row.hospital
  pub ended : HasMember (IsOrNull IsMoment) (codes "ended") d row.ended
  pub stood_down : HasMember IsBool (codes "stood_down") d row.stood_down

pub record IsHistory (d : Data) (history : History) : Type 0 where
  pub summary : IsSummary d history.summary
  pub calls : HasMember (IsList IsCallLine) (codes "calls") d history.calls
  pub turns : HasMember (IsList IsTurnLine) (codes "turns") d history.turns

-- ---- what is shown
-- the incident that one was merged into, where there is one
abbrev pub merged_text : Option ℕ → List ℕ
merged_text None = codes "unknown"
merged_text (Some into) = named_text (codes "merged into") into

-- what became of an incident whose state has a number
abbrev pub state_text : ℕ → Option ℕ → List ℕ
state_text state into =
    if state == 0 then codes "active" else if state == 1 then codes "closed" else merged_text into

abbrev pub history_title : List ℕ
history_title = codes "Incident"

-- the title gives the number of the incident, and what became of it
unfoldable pub summary_title : IncidentSummary → List ℕ
summary_title s =
    history_title ++ codes " " ++ decimal s.number ++ codes ": " ++ state_text s.state s.into

abbrev pub summary_titles : List ℕ
summary_titles = codes " class place          needed served              age first order"

abbrev pub summary_columns : List Column
summary_columns = Right 5 ∷ Left 14 ∷ Left 6 ∷ Left 12 ∷ Right 10 ∷ Right 11 ∷ []

abbrev pub summary_texts : ℕ → IncidentSummary → List (List ℕ)
summary_texts now s =
    decimal s.class ∷ place_text s.place ∷ counts_text s.needs ∷ served_text s.served
    ∷ since_text now s.opened ∷ since_any_text now s.first_order ∷ []

-- the incident below an empty line
abbrev pub summary_lines : Bool → ℕ → IncidentSummary → List ℕ
summary_lines colour now s =
    spaced_line colour Title (summary_title s)
    ++ text_line colour Plain summary_titles
    ++ line_of colour Plain (row_of summary_columns (summary_texts now s))

abbrev pub call_table : Table CallLine
call_table = record {
  name = codes "calls";
  title = codes "Calls";
  titles = codes " position     serial linked place          class needed        age";
  columns = Right 8 ∷ Right 10 ∷ Left 6 ∷ Left 14 ∷ Right 5 ∷ Left 6 ∷ Right 10 ∷ [];
  texts = λ now c. decimal c.position ∷ decimal c.serial
      ∷ (if c.linked then codes "linked" else codes "-") ∷ place_text c.place ∷ decimal c.class
      ∷ counts_text c.needs ∷ since_text now c.moment ∷ [];
  is_wrong = λ now c. false;
  note = λ c. c.note;
}

-- who ended a turn, the desk or the crew
abbrev pub ended_by : Option ℕ → Bool → List ℕ
ended_by None stood_down = codes "-"
ended_by (Some ended) true = codes "desk"
ended_by (Some ended) false = codes "crew"

abbrev pub turn_table : Table TurnLine
turn_table = record {
  name = codes "turns";
  title = codes "Turns";
  titles = codes " vehicle       order    ordered    read   scene    left hospital   ended   by";
  columns = Left 8 ∷ Right 10 ∷ Right 10 ∷ Right 7 ∷ Right 7 ∷ Right 7 ∷ Right 8 ∷ Right 7
      ∷ Right 4 ∷ [];
  texts = λ now t. t.callsign ∷ decimal t.order ∷ since_text now t.ordered
      ∷ after_text t.ordered t.acknowledged ∷ after_text t.ordered t.scene
      ∷ after_text t.ordered t.left ∷ after_text t.ordered t.hospital
      ∷ after_text t.ordered t.ended ∷ ended_by t.ended t.stood_down ∷ [];
  is_wrong = λ now t. false;
  note = λ row. [];
}

-- an incident, its calls and its turns
abbrev pub history_lines : Bool → ℕ → History → List ℕ
history_lines colour now h =
    summary_lines colour now h.summary
    ++ table_lines call_table colour now h.calls
    ++ table_lines turn_table colour now h.turns
