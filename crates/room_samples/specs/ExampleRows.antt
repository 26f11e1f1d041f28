-- Rows and lines of answers, with their fields in the order in which their types have them.
use Rattle.std.specs.Prelude.{Bool, List, Option, ℕ, ℤ}
use Rattle.room_place.specs.declared.places.Place.{Place}
use Rattle.room_types.specs.Texts.{Callsign, Note}
use Rattle.room_types.specs.declared.answers.IncidentLine.{IncidentLine}
use Rattle.room_types.specs.declared.answers.PointLine.{PointLine}
use Rattle.room_types.specs.declared.answers.Proposal.{Proposal}
use Rattle.room_types.specs.declared.answers.Times.{Times}
use Rattle.room_types.specs.declared.answers.TimesLine.{TimesLine}
use Rattle.room_types.specs.declared.answers.VehicleLine.{VehicleLine}
use Rattle.room_types.specs.declared.asks.CallForm.{CallForm}
use Rattle.room_types.specs.declared.asks.Press.{Press}
use Rattle.room_types.specs.declared.codes.Button.{Button}
use Rattle.room_types.specs.declared.codes.Kind.{Kind}
use Rattle.room_types.specs.declared.codes.Outcome.{Outcome}
use Rattle.room_types.specs.declared.codes.State.{State}
use Rattle.room_types.specs.declared.codes.Status.{Status}
use Rattle.room_types.specs.declared.needs.Counts.{Counts}
use Rattle.room_types.specs.declared.tables.Assignment.{Assignment}
use Rattle.room_types.specs.declared.tables.Call.{Call}
use Rattle.room_types.specs.declared.tables.Division.{Division}
use Rattle.room_types.specs.declared.tables.Incident.{Incident}
use Rattle.room_types.specs.declared.tables.Loan.{Loan}
use Rattle.room_types.specs.declared.tables.Offer.{Offer}
use Rattle.room_types.specs.declared.tables.Point.{Point}
use Rattle.room_types.specs.declared.tables.Report.{Report}
use Rattle.room_types.specs.declared.tables.Turn.{Turn}
use Rattle.room_types.specs.declared.tables.Vehicle.{Vehicle}

abbrev pub grid : ℕ → ℕ → Place
grid east north = record { east = east; north = north }

abbrev pub division : ℕ → ℕ → Division
division number last_incident = record { number = number; last_incident = last_incident }

abbrev pub incident : ℕ → ℕ → Place → ℕ → Counts → ℕ → Option ℕ → State → Incident
incident division number place class needs opened first_order state = record {
  division = division;
  number = number;
  place = place;
  class = class;
  needs = needs;
  opened = opened;
  first_order = first_order;
  state = state;
}

abbrev pub call : ℕ → ℕ → ℕ → ℕ → ℕ → Bool → Place → ℕ → Counts → Note → ℕ → Call
call position serial division incident given linked place class needs note at = record {
  position = position;
  serial = serial;
  division = division;
  incident = incident;
  given = given;
  linked = linked;
  place = place;
  class = class;
  needs = needs;
  note = note;
  at = at;
}

abbrev pub vehicle : Callsign → ℕ → ℕ → Kind → Place → Status → ℕ → Option ℕ → ℕ → ℕ → Vehicle
vehicle callsign home holder kind place status shift_end post last_order last_report = record {
  callsign = callsign;
  home = home;
  holder = holder;
  kind = kind;
  place = place;
  status = status;
  shift_end = shift_end;
  post = post;
  last_order = last_order;
  last_report = last_report;
}

abbrev pub turn : Callsign → ℕ → ℕ → ℕ → Kind → ℕ → Option ℕ → Option ℕ → Option ℕ → Option ℕ
    → Option ℕ → Bool → Turn
turn callsign order division incident kind ordered acknowledged scene left hospital ended
    stood_down = record {
      callsign = callsign;
      order = order;
      division = division;
      incident = incident;
      kind = kind;
      ordered = ordered;
      acknowledged = acknowledged;
      scene = scene;
      left = left;
      hospital = hospital;
      ended = ended;
      stood_down = stood_down;
    }

abbrev pub assignment : Callsign → ℕ → ℕ → ℕ → Place → ℕ → Assignment
assignment callsign division incident order place class = record {
  callsign = callsign;
  division = division;
  incident = incident;
  order = order;
  place = place;
  class = class;
}

abbrev pub point : ℕ → ℕ → Place → ℕ → Point
point division number place cover = record {
  division = division;
  number = number;
  place = place;
  cover = cover;
}

abbrev pub loan : Callsign → ℕ → ℕ → ℕ → ℕ → Bool → Loan
loan callsign lender borrower since until recalled = record {
  callsign = callsign;
  lender = lender;
  borrower = borrower;
  since = since;
  until = until;
  recalled = recalled;
}

abbrev pub offer : Callsign → ℕ → ℕ → ℕ → ℕ → Offer
offer callsign lender borrower since until = record {
  callsign = callsign;
  lender = lender;
  borrower = borrower;
  since = since;
  until = until;
}

abbrev pub report : Callsign → ℕ → Button → ℕ → Place → ℕ → ℕ → Outcome → Status → Bool → Report
report callsign number button order place at division outcome status cleared = record {
  callsign = callsign;
  number = number;
  button = button;
  order = order;
  place = place;
  at = at;
  division = division;
  outcome = outcome;
  status = status;
  cleared = cleared;
}

abbrev pub call_form : ℕ → Place → ℕ → Counts → Note → CallForm
call_form serial place class needs note = record {
  serial = serial;
  place = place;
  class = class;
  needs = needs;
  note = note;
}

abbrev pub pressed : ℕ → Button → ℕ → Place → Press
pressed number button order place = record {
  number = number;
  button = button;
  order = order;
  place = place;
}

abbrev pub incident_line : ℕ → Place → ℕ → Counts → Counts → ℕ → ℕ → IncidentLine
incident_line number place class needs lack opened calls = record {
  number = number;
  place = place;
  class = class;
  needs = needs;
  lack = lack;
  opened = opened;
  calls = calls;
}

abbrev pub proposal : Bool → ℕ → Kind → Callsign → Proposal
proposal breaks distance kind callsign = record {
  breaks = breaks;
  distance = distance;
  kind = kind;
  callsign = callsign;
}

abbrev pub vehicle_line : Callsign → ℕ → Option ℕ → Kind → Place → Option ℕ → ℕ → Status
    → VehicleLine
vehicle_line callsign home incident kind place post shift_end status = record {
  callsign = callsign;
  home = home;
  incident = incident;
  kind = kind;
  place = place;
  post = post;
  shift_end = shift_end;
  status = status;
}

abbrev pub point_line : ℕ → Place → ℕ → ℕ → PointLine
point_line number place cover held = record {
  number = number;
  place = place;
  cover = cover;
  held = held;
}

abbrev pub times_line : ℕ → ℕ → Option ℕ → TimesLine
times_line number opened activation = record {
  number = number;
  opened = opened;
  activation = activation;
}

abbrev pub times : ℤ → ℤ → ℕ → ℕ → List TimesLine → Times
times from to activated within lines = record {
  from = from;
  to = to;
  activated = activated;
  within = within;
  lines = lines;
}
