-- A board: what it shows of what was heard, and how much of it could be reached.
use Rattle.std.specs.Prelude.{◌≡◌, ◌⊎◌, ℕ, List, [], ◌++◌, Bool, true, false, codes, map, None}
use Rattle.std.specs.Prelude.{Some}
use Rattle.serde_json.specs.Data.{Data}
use Rattle.httpdate.specs.Date.{date_text, unix_secs}
use Rattle.httpdate.specs.declared.date.HttpDate.{HttpDate}
use Rattle.dispatch_room_board.specs.declared.boards.Board.{Board}
use Rattle.dispatch_room_board.specs.declared.boards.Reached.{Reached}
use Rattle.dispatch_room_board.specs.declared.boards.Reached.TheVariants.{All, AllButRefused, Less}
use Rattle.dispatch_room_board.specs.declared.heard_answers.HeardAnswer.{HeardAnswer}
use Rattle.dispatch_room_board.specs.declared.board_pages.Paint.TheVariants.{Plain, Alarm}
use Rattle.dispatch_room_board.specs.declared.renderer.Renderer.{Renderer}
use Rattle.dispatch_room_board.specs.declared.board_errors.BoardError.{BoardError}
use Rattle.dispatch_room_board.specs.declared.board_errors.BoardError.TheVariants.{Unheard, Foreign}
use Rattle.dispatch_room_board.specs.declared.board_errors.BoardError.TheVariants.{Refused}
use Rattle.dispatch_room_board.specs.Histories.{IsHistory, history_lines, history_title}
use Rattle.dispatch_room_board.specs.AnswerRows.{Befalls, IsList, IsNext}
use Rattle.dispatch_room_board.specs.Members.{HasMember, IsRead}
use Rattle.dispatch_room_board.specs.HeardAnswers.{IsMessage}
use Rattle.dispatch_room_board.specs.Pages.{Adds, spaced_line, text_line}
use Rattle.dispatch_room_board.specs.BoardRows.{IsIncidentLine, IsLoan, IsOffer, IsPointLine}
use Rattle.dispatch_room_board.specs.BoardRows.{IsProposal, IsVehicleLine}
use Rattle.dispatch_room_board.specs.BoardTables.{Table, incident_table, loan_table, offer_table}
use Rattle.dispatch_room_board.specs.BoardTables.{point_table, proposal_table, queue_table}
use Rattle.dispatch_room_board.specs.BoardTables.{table_lines, vehicle_table}
use Rattle.dispatch_room_board.specs.ToldReports.{AreTold, IsQueueAnswer, vehicles_in, with_report}
use Rattle.dispatch_room_board.specs.declared.queue_columns.QueueLine.{QueueLine}
use Rattle.dispatch_room_board.specs.declared.told_reports.ToldReport.{ToldReport}
use Rattle.dispatch_room_board.specs.BoardErrors.{error_text}

-- what is reached where one error more is met: the worst of all
abbrev pub reached_with : Reached → BoardError → Reached
reached_with Less board_error = Less
reached_with All Unheard = Less
reached_with All Foreign = Less
reached_with All (Refused number name) = AllButRefused
reached_with AllButRefused Unheard = Less
reached_with AllButRefused Foreign = Less
reached_with AllButRefused (Refused number name) = AllButRefused

-- a board has these bytes more, and nothing else is other
abbrev pub Puts : Renderer → Renderer → List ℕ → Type 0
Puts old new bytes =
    Adds old.page new.page bytes × (new.rest ≡ old.rest) × (new.reached ≡ old.reached)

-- what stands in place of a part
abbrev pub board_error_lines : Bool → List ℕ → BoardError → List ℕ
board_error_lines colour title board_error = spaced_line colour Alarm (error_text title board_error)

-- what the next answer gives is shown in these lines as it was at its moment
pub record Shows {T : Type 0} (gives : Data → T → Type 0) (lines : Bool → ℕ → T → List ℕ)
    (old new : Renderer) : Type 0 where
  pub given : T
  pub now : ℕ
  pub next : IsNext gives old.rest.now new.rest.now (given, now)
  pub page : Adds old.page new.page (lines old.page.colour now given)
  pub reached : new.reached ≡ old.reached

-- the board says why the answer gives nothing of the kind
pub record ExplainsWhy {T : Type 0} (gives : Data → T → Type 0) (title : List ℕ)
    (old new : Renderer) : Type 0 where
  pub board_error : BoardError
  pub befalls : Befalls gives old.rest.now new.rest.now board_error
  pub page : Adds old.page new.page (board_error_lines old.page.colour title board_error)
  pub reached : new.reached ≡ reached_with old.reached board_error

-- a part of the board is shown, or why it is not there
abbrev pub IsPart : {T : Type 0} → (Data → T → Type 0) → List ℕ → (Bool → ℕ → T → List ℕ) → Renderer
    → Renderer → Type 0
IsPart gives title lines old new = Shows gives lines old new ⊎ ExplainsWhy gives title old new

-- a table is shown: its rows, or why there are none
abbrev pub IsShown : {T : Type 0} → (Data → T → Type 0) → Table T → Renderer → Renderer → Type 0
IsShown says table = IsPart (HasMember (IsList says) table.name) table.title (table_lines table)

-- the queue is shown, each exception with its report, where one is told
pub record ShowsQueue (told : List ℕ) (old new : Renderer) : Type 0 where
  pub lines : List QueueLine
  pub now : ℕ
  pub next : IsNext IsQueueAnswer old.rest.now new.rest.now (lines, now)
  pub reports : List ToldReport
  pub are_told : AreTold (vehicles_in lines) told reports
  pub page : Adds old.page new.page
      (table_lines queue_table old.page.colour now (map (with_report reports) lines))
  pub reached : new.reached ≡ old.reached

abbrev pub IsQueue : List ℕ → Renderer → Renderer → Type 0
IsQueue told old new = ShowsQueue told old new ⊎ ExplainsWhy IsQueueAnswer queue_table.title old new

-- it is shown what came of an incident, and whom to send to it
pub record ShowsIncident (old new : Renderer) : Type 0 where
  pub history : Renderer
  pub is_history : IsPart IsHistory history_title history_lines old history
  pub is_proposals : IsShown IsProposal proposal_table history new

-- the incident is shown where one was named
abbrev pub ShowsNamed : Bool → Renderer → Renderer → Type 0
ShowsNamed true old new = ShowsIncident old new
ShowsNamed false old new = new ≡ old

-- the first answer that was heard was given at this moment
abbrev pub IsHeardAt : List ℕ → ℕ → Type 0
IsHeardAt heard moment = (message : HeardAnswer) × (rest : List ℕ) × IsMessage heard message rest
    × (message.moment ≡ Some moment)

-- the first line: the moment of the first answer, or that there is none
abbrev pub IsHead : Renderer → Renderer → Type 0
IsHead old new =
    ((date : HttpDate) × IsHeardAt old.rest.now (unix_secs date)
    × Puts old new (text_line old.page.colour Plain (codes "Room at " ++ date_text date)))
    ⊎ (IsRead (IsHeardAt old.rest.now) None
    × Puts old new (text_line old.page.colour Alarm
    (codes "Room at no moment: nothing was heard")))

-- nothing is written yet
pub record IsEmpty (heard : List ℕ) (painted : Bool) (renderer : Renderer) : Type 0 where
  pub rest : renderer.rest.now ≡ heard
  pub page : renderer.page.text.items ≡ []
  pub colour : renderer.page.colour ≡ painted
  pub reached : renderer.reached ≡ All

-- the board of what was heard, and of what was told of reports: its first line, and below it each
-- part, of one answer after another
pub record IsBoard (heard told : List ℕ) (named colour : Bool) (board : Board) : Type 0 where
  pub empty : Renderer
  pub is_empty : IsEmpty heard colour empty
  pub head : Renderer
  pub is_head : IsHead empty head
  pub queue : Renderer
  pub is_queue : IsQueue told head queue
  pub incidents : Renderer
  pub is_incidents : IsShown IsIncidentLine incident_table queue incidents
  pub incident : Renderer
  pub is_incident : ShowsNamed named incidents incident
  pub vehicles : Renderer
  pub is_vehicles : IsShown IsVehicleLine vehicle_table incident vehicles
  pub points : Renderer
  pub is_points : IsShown IsPointLine point_table vehicles points
  pub offers : Renderer
  pub is_offers : IsShown IsOffer offer_table points offers
  pub loans : Renderer
  pub is_loans : IsShown IsLoan loan_table offers loans
  pub page : board.page ≡ loans.page
  pub reached : board.reached ≡ loans.reached
