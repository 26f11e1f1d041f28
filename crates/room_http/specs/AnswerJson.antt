-- What an answer says, as JSON: the members of an object stand in the byte order of their names.
use Rattle.std.specs.Prelude.{ℕ, List, [], ◌∷◌, codes, true, Option, None, Some, Result, Ok, Err}
use Rattle.serde_json.specs.Data.{Data, boolean, number, string}
use Rattle.serde_json.specs.Find.{of_integer}
use Rattle.serde_json.specs.Written.{compact_text}
use Rattle.room_place.specs.declared.places.Place.{Place}
use Rattle.room_types.specs.Codes.{button_name, kind_number, merged_into, outcome_name}
use Rattle.room_types.specs.Codes.{state_number, status_number}
use Rattle.room_types.specs.Ranks.{rank_number}
use Rattle.room_types.specs.RefusalStatuses.{refusal_name, refusal_number}
use Rattle.room_types.specs.declared.answers.Answer.{Answer}
use Rattle.room_types.specs.declared.answers.Answer.TheVariants as answer
use Rattle.room_types.specs.declared.answers.ClassLine.{ClassLine}
use Rattle.room_types.specs.declared.answers.ClassTimes.{ClassTimes}
use Rattle.room_types.specs.declared.answers.ClosedPage.{ClosedPage}
use Rattle.room_types.specs.declared.answers.QueueEntry.{QueueEntry}
use Rattle.room_types.specs.declared.answers.History.{History}
use Rattle.room_types.specs.declared.answers.IncidentLine.{IncidentLine}
use Rattle.room_types.specs.declared.answers.Job.{Job}
use Rattle.room_types.specs.declared.answers.MoveLine.{MoveLine}
use Rattle.room_types.specs.declared.answers.PointLine.{PointLine}
use Rattle.room_types.specs.declared.answers.Proposal.{Proposal}
use Rattle.room_types.specs.declared.answers.Served.{Served}
use Rattle.room_types.specs.declared.answers.Times.{Times}
use Rattle.room_types.specs.declared.answers.TimesLine.{TimesLine}
use Rattle.room_types.specs.declared.answers.VehicleLine.{VehicleLine}
use Rattle.room_types.specs.declared.needs.Counts.{Counts}
use Rattle.room_types.specs.declared.refusal_statuses.Refusal.{Refusal}
use Rattle.room_types.specs.declared.tables.Assignment.{Assignment}
use Rattle.room_types.specs.declared.tables.Call.{Call}
use Rattle.room_types.specs.declared.tables.Incident.{Incident}
use Rattle.room_types.specs.declared.tables.Loan.{Loan}
use Rattle.room_types.specs.declared.tables.Offer.{Offer}
use Rattle.room_types.specs.declared.tables.Report.{Report}
use Rattle.room_types.specs.declared.tables.Turn.{Turn}
use Rattle.room_http.specs.JsonShapes.{whole, or_null, list_of, object_of}

-- metres east and north
abbrev pub place_json : Place → Data
place_json p = list_of whole (p.east ∷ p.north ∷ [])

-- a number for each kind of vehicle
abbrev pub counts_json : Counts → Data
counts_json n = list_of whole (n.ambulances ∷ n.cars ∷ n.support ∷ [])

abbrev pub served_json : Served → Data
served_json n = list_of whole (n.ambulances ∷ n.cars ∷ n.support ∷ [])

abbrev pub incident_json : IncidentLine → Data
incident_json l =
    object_of (
    (codes "calls", whole l.calls)
    ∷ (codes "class", whole l.class)
    ∷ (codes "lack", counts_json l.lack)
    ∷ (codes "needs", counts_json l.needs)
    ∷ (codes "number", whole l.number)
    ∷ (codes "opened", whole l.opened)
    ∷ (codes "place", place_json l.place)
    ∷ [])

abbrev pub proposal_json : Proposal → Data
proposal_json p =
    object_of (
    (codes "breaks", boolean p.breaks)
    ∷ (codes "distance", whole p.distance)
    ∷ (codes "kind", whole (kind_number p.kind))
    ∷ (codes "vehicle", string p.callsign)
    ∷ [])

abbrev pub vehicle_json : VehicleLine → Data
vehicle_json l =
    object_of (
    (codes "home", whole l.home)
    ∷ (codes "incident", or_null whole l.incident)
    ∷ (codes "kind", whole (kind_number l.kind))
    ∷ (codes "place", place_json l.place)
    ∷ (codes "post", or_null whole l.post)
    ∷ (codes "shift_end", whole l.shift_end)
    ∷ (codes "status", whole (status_number l.status))
    ∷ (codes "vehicle", string l.callsign)
    ∷ [])

-- a vehicle with its order, and none of one that was stood down
abbrev pub move_json : MoveLine → Data
move_json l =
    object_of (
    (codes "order", or_null whole l.order)
    ∷ (codes "vehicle", string l.callsign)
    ∷ [])

-- an entry about no vehicle has the empty text
abbrev pub callsign_or_empty : Option (List ℕ) → List ℕ
callsign_or_empty None = []
callsign_or_empty (Some callsign) = callsign

abbrev pub entry_json : QueueEntry → Data
entry_json e =
    object_of (
    (codes "number", whole e.number)
    ∷ (codes "rank", whole (rank_number e.rank))
    ∷ (codes "since", whole e.since)
    ∷ (codes "vehicle", string (callsign_or_empty e.callsign))
    ∷ [])

abbrev pub point_json : PointLine → Data
point_json l =
    object_of (
    (codes "cover", whole l.cover)
    ∷ (codes "held", whole l.held)
    ∷ (codes "number", whole l.number)
    ∷ (codes "place", place_json l.place)
    ∷ [])

abbrev pub loan_json : Loan → Data
loan_json l =
    object_of (
    (codes "borrower", whole l.borrower)
    ∷ (codes "lender", whole l.lender)
    ∷ (codes "recalled", boolean l.recalled)
    ∷ (codes "since", whole l.since)
    ∷ (codes "until", whole l.until)
    ∷ (codes "vehicle", string l.callsign)
    ∷ [])

abbrev pub offer_json : Offer → Data
offer_json o =
    object_of (
    (codes "borrower", whole o.borrower)
    ∷ (codes "lender", whole o.lender)
    ∷ (codes "since", whole o.since)
    ∷ (codes "until", whole o.until)
    ∷ (codes "vehicle", string o.callsign)
    ∷ [])

abbrev pub times_line_json : TimesLine → Data
times_line_json l =
    object_of (
    (codes "activation", or_null whole l.activation)
    ∷ (codes "number", whole l.number)
    ∷ (codes "opened", whole l.opened)
    ∷ [])

-- from and to are seconds since 1970, which may be before it
abbrev pub times_json : Times → Data
times_json t =
    object_of (
    (codes "activated", whole t.activated)
    ∷ (codes "from", number (of_integer t.from))
    ∷ (codes "incidents", list_of times_line_json t.lines)
    ∷ (codes "to", number (of_integer t.to))
    ∷ (codes "within", whole t.within)
    ∷ [])

abbrev pub class_line_json : ClassLine → Data
class_line_json l =
    object_of (
    (codes "activated", whole l.activated)
    ∷ (codes "class", whole l.class)
    ∷ (codes "opened", whole l.opened)
    ∷ (codes "within", whole l.within)
    ∷ [])

-- from and to are those of the day's times
abbrev pub class_times_json : ClassTimes → Data
class_times_json t =
    object_of (
    (codes "classes", list_of class_line_json t.lines)
    ∷ (codes "from", number (of_integer t.from))
    ∷ (codes "to", number (of_integer t.to))
    ∷ [])

-- an incident that is over; of one that was merged the incident that it went into
abbrev pub closed_json : Incident → Data
closed_json i =
    object_of (
    (codes "class", whole i.class)
    ∷ (codes "first_order", or_null whole i.first_order)
    ∷ (codes "into", or_null whole (merged_into i.state))
    ∷ (codes "needs", counts_json i.needs)
    ∷ (codes "number", whole i.number)
    ∷ (codes "opened", whole i.opened)
    ∷ (codes "place", place_json i.place)
    ∷ [])

-- incidents that are over, and the number of the one that follows them, if there is one
abbrev pub closed_page_json : ClosedPage → Data
closed_page_json p =
    object_of (
    (codes "incidents", list_of closed_json p.incidents)
    ∷ (codes "next", or_null whole p.next)
    ∷ [])

abbrev pub assignment_json : Assignment → Data
assignment_json a =
    object_of (
    (codes "class", whole a.class)
    ∷ (codes "division", whole a.division)
    ∷ (codes "incident", whole a.incident)
    ∷ (codes "order", whole a.order)
    ∷ (codes "place", place_json a.place)
    ∷ [])

-- an order with its incident's class and the notes of its calls
abbrev pub job_json : Job → Data
job_json j =
    object_of (
    (codes "class", whole j.class)
    ∷ (codes "notes", list_of string j.notes)
    ∷ (codes "order", assignment_json j.order)
    ∷ (codes "post", or_null whole j.post)
    ∷ (codes "status", whole (status_number j.status))
    ∷ [])

-- a call, with the incident that it was given: another than it belongs to, where that was merged
abbrev pub call_json : Call → Data
call_json c =
    object_of (
    (codes "class", whole c.class)
    ∷ (codes "given", whole c.given)
    ∷ (codes "linked", boolean c.linked)
    ∷ (codes "moment", whole c.at)
    ∷ (codes "needs", counts_json c.needs)
    ∷ (codes "note", string c.note)
    ∷ (codes "place", place_json c.place)
    ∷ (codes "position", whole c.position)
    ∷ (codes "serial", whole c.serial)
    ∷ [])

-- a turn, with the incident that the vehicle was sent to
abbrev pub turn_json : Turn → Data
turn_json t =
    object_of (
    (codes "acknowledged", or_null whole t.acknowledged)
    ∷ (codes "ended", or_null whole t.ended)
    ∷ (codes "hospital", or_null whole t.hospital)
    ∷ (codes "incident", whole t.incident)
    ∷ (codes "kind", whole (kind_number t.kind))
    ∷ (codes "left", or_null whole t.left)
    ∷ (codes "order", whole t.order)
    ∷ (codes "ordered", whole t.ordered)
    ∷ (codes "scene", or_null whole t.scene)
    ∷ (codes "stood_down", boolean t.stood_down)
    ∷ (codes "vehicle", string t.callsign)
    ∷ [])

-- an incident with its calls and its turns; of one that was merged the incident that it went into
abbrev pub history_json : History → Data
history_json h =
    object_of (
    (codes "calls", list_of call_json h.calls)
    ∷ (codes "class", whole h.incident.class)
    ∷ (codes "first_order", or_null whole h.incident.first_order)
    ∷ (codes "into", or_null whole (merged_into h.incident.state))
    ∷ (codes "needs", counts_json h.incident.needs)
    ∷ (codes "number", whole h.incident.number)
    ∷ (codes "opened", whole h.incident.opened)
    ∷ (codes "place", place_json h.incident.place)
    ∷ (codes "served", served_json h.served)
    ∷ (codes "state", whole (state_number h.incident.state))
    ∷ (codes "turns", list_of turn_json h.turns)
    ∷ [])

-- a report, with what became of it, and the status after it
abbrev pub report_json : Report → Data
report_json x =
    object_of (
    (codes "button", string (button_name x.button))
    ∷ (codes "cleared", boolean x.cleared)
    ∷ (codes "moment", whole x.at)
    ∷ (codes "number", whole x.number)
    ∷ (codes "order", whole x.order)
    ∷ (codes "outcome", string (outcome_name x.outcome))
    ∷ (codes "place", place_json x.place)
    ∷ (codes "status", whole (status_number x.status))
    ∷ [])

abbrev pub answer_json : Answer → Data
answer_json (answer.Called division incident linked) =
    object_of ((codes "division", whole division) ∷ (codes "incident", whole incident)
    ∷ (codes "linked", boolean linked) ∷ [])
answer_json (answer.Incidents lines) =
    object_of ((codes "incidents", list_of incident_json lines) ∷ [])
answer_json (answer.Proposals lines) =
    object_of ((codes "proposals", list_of proposal_json lines) ∷ [])
answer_json (answer.Incident history) = history_json history
answer_json (answer.Mobilised order callsign) =
    object_of ((codes "order", whole order) ∷ (codes "vehicle", string callsign) ∷ [])
answer_json (answer.Moved lines) = object_of ((codes "moves", list_of move_json lines) ∷ [])
answer_json answer.Done = object_of ((codes "done", boolean true) ∷ [])
answer_json (answer.Vehicles lines) =
    object_of ((codes "vehicles", list_of vehicle_json lines) ∷ [])
answer_json (answer.Reports reports) =
    object_of ((codes "reports", list_of report_json reports) ∷ [])
answer_json (answer.Queue entries) = object_of ((codes "queue", list_of entry_json entries) ∷ [])
answer_json (answer.Points lines) = object_of ((codes "points", list_of point_json lines) ∷ [])
answer_json (answer.Loans loans) = object_of ((codes "loans", list_of loan_json loans) ∷ [])
answer_json (answer.Offers offers) = object_of ((codes "offers", list_of offer_json offers) ∷ [])
answer_json (answer.Times times) = times_json times
answer_json (answer.ClassTimes times) = class_times_json times
answer_json (answer.Closed page) = closed_page_json page
answer_json (answer.Order assignment post status) =
    object_of ((codes "order", or_null assignment_json assignment)
    ∷ (codes "post", or_null whole post) ∷ (codes "status", whole (status_number status)) ∷ [])
answer_json (answer.Job job) = job_json job
answer_json (answer.Reported report outcome status) =
    object_of ((codes "number", whole report) ∷ (codes "outcome", string (outcome_name outcome))
    ∷ (codes "status", whole (status_number status)) ∷ [])
answer_json (answer.LastReport report order) =
    object_of ((codes "number", whole report) ∷ (codes "order", whole order) ∷ [])
answer_json (answer.LastSerial serial) = object_of ((codes "serial", whole serial) ∷ [])

abbrev pub refusal_json : Refusal → Data
refusal_json r = object_of ((codes "error", string (refusal_name r))
    ∷ (codes "number", whole (refusal_number r)) ∷ [])

abbrev pub json_of : Result Answer Refusal → Data
json_of (Ok a) = answer_json a
json_of (Err r) = refusal_json r

-- the content of the message that answers
unfoldable pub content : Result Answer Refusal → List ℕ
content a = compact_text (json_of a)
