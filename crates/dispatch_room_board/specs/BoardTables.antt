-- The tables of a board, and what stands in their rows.
use Rattle.std.specs.Prelude.{◌≡◌, ◌≤◌, ℕ, ◌+◌, ◌-◌, List, [], ◌∷◌, ◌++◌, length, codes, decimal}
use Rattle.std.specs.Prelude.{nat_le, nat_lt, if◌then◌else◌, Bool, true, false, Option, None, Some}
use Rattle.room_types.specs.declared.answers.QueueEntry.{QueueEntry}
use Rattle.room_types.specs.declared.answers.IncidentLine.{IncidentLine}
use Rattle.room_types.specs.declared.answers.PointLine.{PointLine}
use Rattle.room_types.specs.declared.answers.Proposal.{Proposal}
use Rattle.room_types.specs.declared.answers.VehicleLine.{VehicleLine}
use Rattle.room_types.specs.declared.codes.Status.{Status}
use Rattle.room_types.specs.declared.codes.Status.TheVariants.{OffDuty}
use Rattle.room_types.specs.declared.needs.Counts.{Counts}
use Rattle.room_types.specs.declared.ranks.Rank.{Rank}
use Rattle.room_types.specs.declared.ranks.Rank.TheVariants as rank
use Rattle.room_types.specs.declared.ranks.Subject.{Subject}
use Rattle.room_types.specs.declared.ranks.Subject.TheVariants as subject
use Rattle.room_types.specs.Ranks.{is_timed, subject_of}
use Rattle.room_types.specs.declared.tables.Loan.{Loan}
use Rattle.room_types.specs.declared.tables.Offer.{Offer}
use Rattle.dispatch_room_board.specs.declared.cell_layout.Column.{Column}
use Rattle.dispatch_room_board.specs.declared.cell_layout.Column.TheVariants.{Left, Right}
use Rattle.dispatch_room_board.specs.declared.board_pages.Paint.{Paint}
use Rattle.dispatch_room_board.specs.declared.board_pages.Paint.TheVariants.{Plain, Title, Alarm}
use Rattle.dispatch_room_board.specs.declared.board_pages.TheConstants.{WIDEST}
use Rattle.dispatch_room_board.specs.declared.queue_columns.QueueLine.{QueueLine}
use Rattle.dispatch_room_board.specs.declared.report_lines.ReportLine.{ReportLine}
use Rattle.dispatch_room_board.specs.declared.table_layouts.TableLayout.{TableLayout}
use Rattle.dispatch_room_board.specs.BoardCells.{counts_text, kind_text, left_text, named_text}
use Rattle.dispatch_room_board.specs.BoardCells.{place_text, since_text, status_text}
use Rattle.dispatch_room_board.specs.CellLayout.{row_of, width_of}
use Rattle.dispatch_room_board.specs.Pages.{line_of, note_lines, text_line}
use Rattle.dispatch_room_board.specs.ReportLines.{report_text}

-- what an answer calls the rows, what the table is called, what stands above its rows, its columns,
-- the texts of a row at a moment, whether something is wrong with it then, and the note below it
pub record Table (T : Type 0) : Type 0 where
  pub name : List ℕ
  pub title : List ℕ
  pub titles : List ℕ
  pub columns : List Column
  pub texts : ℕ → T → List (List ℕ)
  pub is_wrong : ℕ → T → Bool
  pub note : T → List ℕ

-- it is the table's, and no row is wider than a line
pub record IsLayout {T : Type 0} (table : Table T) (layout : TableLayout) : Type 0 where
  pub name : layout.name.now ≡ table.name
  pub title : layout.title.now ≡ table.title
  pub titles : layout.titles.now ≡ table.titles
  pub columns : layout.columns.now ≡ table.columns
  pub fits : width_of table.columns ≤ WIDEST

-- red where something is wrong
abbrev pub alarm_of : Bool → Paint
alarm_of true = Alarm
alarm_of false = Plain

-- a line, and a note below it, where there is one
abbrev pub with_note : Bool → List ℕ → List ℕ → List ℕ
with_note colour line [] = line
with_note colour line (b ∷ bs) = line ++ note_lines colour (b ∷ bs)

-- the line of a row, with its note
abbrev pub row_line : {T : Type 0} → Table T → Bool → ℕ → T → List ℕ
row_line table colour now row =
    with_note colour
    (line_of colour (alarm_of (table.is_wrong now row))
    (row_of table.columns (table.texts now row)))
    (table.note row)

abbrev pub row_lines : {T : Type 0} → Table T → Bool → ℕ → List T → List ℕ
row_lines table colour now [] = []
row_lines table colour now (row ∷ rows) =
    row_line table colour now row ++ row_lines table colour now rows

-- what stands above the rows, where there are rows
abbrev pub titles_line : {T : Type 0} → Table T → Bool → List T → List ℕ
titles_line table colour [] = []
titles_line table colour (row ∷ rows) = text_line colour Plain table.titles

-- a table below an empty line: how many rows it has, and its rows
unfoldable pub table_lines : {T : Type 0} → Table T → Bool → ℕ → List T → List ℕ
table_lines table colour now rows =
    text_line colour Plain []
    ++ text_line colour Title (table.title ++ codes ": " ++ decimal (length rows))
    ++ titles_line table colour rows
    ++ row_lines table colour now rows

-- what is the matter with an entry of a rank
abbrev pub matter_of : Rank → List ℕ
matter_of rank.Unserved = codes "nobody sent"
matter_of rank.Unacknowledged = codes "order not acknowledged"
matter_of rank.LateForScene = codes "late for the scene"
matter_of rank.OutOfTurn = codes "report out of turn"
matter_of rank.Overdue = codes "loan is over"
matter_of rank.ShiftOver = codes "shift is over"
matter_of rank.Uncovered = codes "point short of cover"
matter_of rank.Unanswered = codes "offer not answered"

-- what its number is of
abbrev pub subject_text : Subject → ℕ → List ℕ
subject_text subject.Incident number = named_text (codes "incident") number
subject_text subject.Report number = named_text (codes "report") number
subject_text subject.Division number = named_text (codes "division") number
subject_text subject.Nothing number = []
subject_text subject.Point number = named_text (codes "point") number

-- how long it has waited, where that is known
abbrev pub waited_of : Rank → ℕ → ℕ → List ℕ
waited_of rank now moment = if is_timed rank then since_text now moment else codes "-"

-- a vehicle's callsign, where there is one
abbrev pub callsign_of : Option (List ℕ) → List ℕ
callsign_of None = []
callsign_of (Some callsign) = callsign

-- the words of the report that an entry is for, where it is told
abbrev pub exception_text : Option ReportLine → List ℕ
exception_text None = []
exception_text (Some report) = report_text report

abbrev pub entry_texts : ℕ → QueueEntry → List (List ℕ)
entry_texts now e =
    matter_of e.rank ∷ subject_text (subject_of e.rank) e.number ∷ callsign_of e.callsign
    ∷ waited_of e.rank now e.since ∷ []

abbrev pub queue_table : Table QueueLine
queue_table = record {
  name = codes "queue";
  title = codes "Queue";
  titles = codes " what                     of                  vehicle      waited";
  columns = Left 24 ∷ Left 19 ∷ Left 8 ∷ Right 10 ∷ [];
  texts = λ now line. entry_texts now line.entry;
  is_wrong = λ now line. false;
  note = λ line. exception_text line.report;
}

-- vehicles are lacking
abbrev pub lacks : Counts → Bool
lacks lack = nat_lt 0 (lack.ambulances + lack.cars + lack.support)

-- how many of the vehicles that are needed serve
abbrev pub served : Counts → Counts → Counts
served needs lack =
    record {
      ambulances = needs.ambulances - lack.ambulances;
      cars = needs.cars - lack.cars;
      support = needs.support - lack.support;
    }

abbrev pub incident_table : Table IncidentLine
incident_table = record {
  name = codes "incidents";
  title = codes "Incidents";
  titles = codes "   incident class place          needed served        age";
  columns = Right 10 ∷ Right 5 ∷ Left 14 ∷ Left 6 ∷ Left 6 ∷ Right 10 ∷ [];
  texts = λ now l. decimal l.number ∷ decimal l.class ∷ place_text l.place ∷ counts_text l.needs
      ∷ counts_text (served l.needs l.lack) ∷ since_text now l.opened ∷ [];
  is_wrong = λ now l. lacks l.lack;
  note = λ row. [];
}

abbrev pub proposal_table : Table Proposal
proposal_table = record {
  name = codes "proposals";
  title = codes "Proposals";
  titles = codes " vehicle  kind      standby                   metres";
  columns = Left 8 ∷ Left 9 ∷ Left 21 ∷ Right 10 ∷ [];
  texts = λ now p. p.callsign ∷ kind_text p.kind
      ∷ (if p.breaks then codes "leaves a point short" else []) ∷ decimal p.distance ∷ [];
  is_wrong = λ now p. p.breaks;
  note = λ row. [];
}

-- the incident that a vehicle is sent to, or else the standby point
abbrev pub sent_text : Option ℕ → Option ℕ → List ℕ
sent_text (Some incident) post = named_text (codes "incident") incident
sent_text None (Some point) = named_text (codes "point") point
sent_text None None = codes "-"

-- how many minutes of its shift are left to a vehicle that is on duty
abbrev pub shift_text : ℕ → Status → ℕ → List ℕ
shift_text now OffDuty end = codes "-"
shift_text now other end = left_text now end

-- a vehicle is on duty after its shift
abbrev pub is_overdue : ℕ → Status → ℕ → Bool
is_overdue now OffDuty end = false
is_overdue now other end = nat_le end now

abbrev pub vehicle_table : Table VehicleLine
vehicle_table = record {
  name = codes "vehicles";
  title = codes "Vehicles";
  titles = codes " vehicle  kind      status      place          home sent to             min left";
  columns = Left 8 ∷ Left 9 ∷ Left 11 ∷ Left 14 ∷ Right 4 ∷ Left 19 ∷ Right 8 ∷ [];
  texts = λ now v. v.callsign ∷ kind_text v.kind ∷ status_text v.status ∷ place_text v.place
      ∷ decimal v.home ∷ sent_text v.incident v.post ∷ shift_text now v.status v.shift_end ∷ [];
  is_wrong = λ now v. is_overdue now v.status v.shift_end;
  note = λ row. [];
}

abbrev pub point_table : Table PointLine
point_table = record {
  name = codes "points";
  title = codes "Points";
  titles = codes " point place          cover                 held";
  columns = Right 5 ∷ Left 14 ∷ Right 5 ∷ Right 20 ∷ [];
  texts = λ now p. decimal p.number ∷ place_text p.place ∷ decimal p.cover ∷ decimal p.held ∷ [];
  is_wrong = λ now p. nat_lt p.held p.cover;
  note = λ row. [];
}

abbrev pub offer_table : Table Offer
offer_table = record {
  name = codes "offers";
  title = codes "Offers";
  titles = codes " vehicle  from   to recalled        age min left";
  columns = Left 8 ∷ Right 4 ∷ Right 4 ∷ Left 8 ∷ Right 10 ∷ Right 8 ∷ [];
  texts = λ now o. o.callsign ∷ decimal o.lender ∷ decimal o.borrower ∷ codes "-"
      ∷ since_text now o.since ∷ left_text now o.until ∷ [];
  is_wrong = λ now o. false;
  note = λ row. [];
}

abbrev pub loan_table : Table Loan
loan_table = record {
  name = codes "loans";
  title = codes "Loans";
  titles = codes " vehicle  from   to recalled        age min left";
  columns = Left 8 ∷ Right 4 ∷ Right 4 ∷ Left 8 ∷ Right 10 ∷ Right 8 ∷ [];
  texts = λ now l. l.callsign ∷ decimal l.lender ∷ decimal l.borrower
      ∷ (if l.recalled then codes "recalled" else codes "-") ∷ since_text now l.since
      ∷ left_text now l.until ∷ [];
  is_wrong = λ now l. nat_le l.until now;
  note = λ row. [];
}
