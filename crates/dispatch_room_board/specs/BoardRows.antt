-- What the rows of the answers say: each field is what the member of its name says.
use Rattle.std.specs.Prelude.{codes, None, ◌≡◌}
use Rattle.serde_json.specs.Data.{Data}
use Rattle.room_types.specs.declared.answers.QueueEntry.{QueueEntry}
use Rattle.room_types.specs.declared.answers.IncidentLine.{IncidentLine}
use Rattle.room_types.specs.declared.answers.Proposal.{Proposal}
use Rattle.room_types.specs.declared.answers.VehicleLine.{VehicleLine}
use Rattle.room_types.specs.declared.answers.PointLine.{PointLine}
use Rattle.room_types.specs.declared.tables.Offer.{Offer}
use Rattle.room_types.specs.declared.tables.Loan.{Loan}
use Rattle.dispatch_room_board.specs.declared.queue_columns.QueueLine.{QueueLine}
use Rattle.dispatch_room_board.specs.Members.{HasMember, IsBool, IsCallsign, IsClass, IsCounts}
use Rattle.dispatch_room_board.specs.Members.{IsDivision, IsKind, IsMoment, IsNeed, IsNeeds}
use Rattle.dispatch_room_board.specs.Members.{IsNumber, IsOrNull, IsPlace, IsPoint, IsRank}
use Rattle.dispatch_room_board.specs.Members.{IsStatus, IsVehicle, IsWhole, IsWord}

pub record IsEntry (d : Data) (row : QueueEntry) : Type 0 where
  pub rank : HasMember IsRank (codes "rank") d row.rank
  pub since : HasMember IsMoment (codes "since") d row.since
  pub number : HasMember IsWord (codes "number") d row.number
  pub callsign : HasMember IsVehicle (codes "vehicle") d row.callsign

-- an entry, of which no report is told yet
pub record IsQueueLine (d : Data) (row : QueueLine) : Type 0 where
  pub entry : IsEntry d row.entry
  pub report : row.report ≡ None

pub record IsIncidentLine (d : Data) (row : IncidentLine) : Type 0 where
  pub number : HasMember IsNumber (codes "number") d row.number
  pub place : HasMember IsPlace (codes "place") d row.place
  pub class : HasMember IsClass (codes "class") d row.class
  pub needs : HasMember IsNeeds (codes "needs") d row.needs
  pub lack : HasMember IsCounts (codes "lack") d row.lack
  pub opened : HasMember IsMoment (codes "opened") d row.opened
  pub calls : HasMember IsWhole (codes "calls") d row.calls

pub record IsProposal (d : Data) (row : Proposal) : Type 0 where
  pub breaks : HasMember IsBool (codes "breaks") d row.breaks
  pub distance : HasMember IsWord (codes "distance") d row.distance
  pub kind : HasMember IsKind (codes "kind") d row.kind
  pub callsign : HasMember IsCallsign (codes "vehicle") d row.callsign

pub record IsVehicleLine (d : Data) (row : VehicleLine) : Type 0 where
  pub callsign : HasMember IsCallsign (codes "vehicle") d row.callsign
  pub home : HasMember IsDivision (codes "home") d row.home
  pub incident : HasMember (IsOrNull IsNumber) (codes "incident") d row.incident
  pub kind : HasMember IsKind (codes "kind") d row.kind
  pub place : HasMember IsPlace (codes "place") d row.place
  pub post : HasMember (IsOrNull IsPoint) (codes "post") d row.post
  pub shift_end : HasMember IsMoment (codes "shift_end") d row.shift_end
  pub status : HasMember IsStatus (codes "status") d row.status

pub record IsPointLine (d : Data) (row : PointLine) : Type 0 where
  pub number : HasMember IsPoint (codes "number") d row.number
  pub place : HasMember IsPlace (codes "place") d row.place
  pub cover : HasMember IsNeed (codes "cover") d row.cover
  pub held : HasMember IsWhole (codes "held") d row.held

pub record IsOffer (d : Data) (row : Offer) : Type 0 where
  pub callsign : HasMember IsCallsign (codes "vehicle") d row.callsign
  pub lender : HasMember IsDivision (codes "lender") d row.lender
  pub borrower : HasMember IsDivision (codes "borrower") d row.borrower
  pub since : HasMember IsMoment (codes "since") d row.since
  pub until : HasMember IsMoment (codes "until") d row.until

pub record IsLoan (d : Data) (row : Loan) : Type 0 where
  pub callsign : HasMember IsCallsign (codes "vehicle") d row.callsign
  pub lender : HasMember IsDivision (codes "lender") d row.lender
  pub borrower : HasMember IsDivision (codes "borrower") d row.borrower
  pub since : HasMember IsMoment (codes "since") d row.since
  pub until : HasMember IsMoment (codes "until") d row.until
  pub recalled : HasMember IsBool (codes "recalled") d row.recalled
