-- Each type of rows is written faithfully: a row is read back as it was written, and SQL orders
-- rows as their keys are ordered.
use Rattle.std.proofs.Common.{◌≡◌, ℕ, List, [], ◌∷◌, Bool, true, false, Option, Some, None, refl}
use Rattle.std.specs.Ordering.{nat_cmp}
use Rattle.std.proofs.lemmas.Cmp.{nat_cmp_total, nat_list_cmp_total}
use Rattle.sqlite_value.specs.Order.{Row, column}
use Rattle.sqlite_value.proofs.OrderLemmas.{value_cmp-Text}
use Rattle.room_tables_schema.specs.TypedRows.{IsFaithful, number, number_or_null}
use Rattle.room_tables_schema.proofs.Comparisons.{value_cmp-numbers, key_of_one, key_of_two}
use Rattle.room_types.specs.Codes.{state_number, merged_into}
use Rattle.room_types.specs.Keys.{callsign_cmp, pair_cmp, numbered_cmp, division_key, incident_key}
use Rattle.room_types.specs.Keys.{call_key, vehicle_key, turn_key, assignment_key, point_key}
use Rattle.room_types.specs.Keys.{loan_key, offer_key, report_key}
use Rattle.room_types.specs.KeyLemmas.{pairs_total, numbered_total}
use Rattle.room_types.specs.declared.asks.Who.{Who}
use Rattle.room_types.specs.declared.asks.Who.TheVariants.{Desk, Crew, Position}
use Rattle.room_types.specs.declared.codes.Kind.{Kind}
use Rattle.room_types.specs.declared.codes.Kind.TheVariants.{Ambulance, Car, Support}
use Rattle.room_types.specs.declared.codes.Status.{Status}
use Rattle.room_types.specs.declared.codes.Status.TheVariants.{OffDuty, Available, Mobilised}
use Rattle.room_types.specs.declared.codes.Status.TheVariants.{AtScene, Leaving, AtHospital}
use Rattle.room_types.specs.declared.codes.Status.TheVariants.{Returning, Offered}
use Rattle.room_types.specs.declared.codes.Button.{Button}
use Rattle.room_types.specs.declared.codes.Button.TheVariants as button
use Rattle.room_types.specs.declared.codes.Outcome.{Outcome}
use Rattle.room_types.specs.declared.codes.Outcome.TheVariants.{Normal, Skipped, Wrong, Late, Stale}
use Rattle.room_types.specs.declared.codes.State.{State}
use Rattle.room_types.specs.declared.codes.State.TheVariants.{Active, Closed, Merged}
use Rattle.room_types.specs.declared.fleet.Terminal.{Terminal}
use Rattle.room_model.specs.FleetRows.{token_cmp, terminal_key}
use Rattle.room_tables_rows.specs.ColumnValues.{truth, kind_code, status_code, button_code}
use Rattle.room_tables_rows.specs.ColumnValues.{outcome_code, number_in, number_or_none, truth_in}
use Rattle.room_tables_rows.specs.ColumnValues.{kind_in, status_in, button_in, outcome_in, state_in}
use Rattle.room_tables_rows.specs.MetaSql.{meta_key, meta_row, version_row, zone_in}
use Rattle.room_tables_rows.specs.AreaSql.{area_key, area_row, area_in}
use Rattle.room_tables_rows.specs.TerminalSql.{terminal_row, terminal_in}
use Rattle.room_tables_rows.specs.DivisionSql.{division_row, division_in}
use Rattle.room_tables_rows.specs.IncidentSql.{incident_row, incident_in}
use Rattle.room_tables_rows.specs.CallSql.{call_row, call_in}
use Rattle.room_tables_rows.specs.VehicleSql.{vehicle_row, vehicle_in}
use Rattle.room_tables_rows.specs.TurnSql.{turn_row, turn_in}
use Rattle.room_tables_rows.specs.AssignmentSql.{assignment_row, assignment_in}
use Rattle.room_tables_rows.specs.PointSql.{point_row, point_in}
use Rattle.room_tables_rows.specs.LoanSql.{loan_row, loan_in}
use Rattle.room_tables_rows.specs.ReportSql.{report_row, report_in}
use Rattle.room_tables_rows.specs.OfferSql.{offer_row, offer_in}

-- ---- values

option_back : (o : Option ℕ) → number_or_none (number_or_null o) ≡ o
option_back None = refl
option_back (Some n) = refl

truth_back : (b : Bool) → truth_in (truth b) ≡ b
truth_back true = refl
truth_back false = refl

kind_back : (k : Kind) → kind_in (kind_code k) ≡ k
kind_back Ambulance = refl
kind_back Car = refl
kind_back Support = refl

status_back : (s : Status) → status_in (status_code s) ≡ s
status_back OffDuty = refl
status_back Available = refl
status_back Mobilised = refl
status_back AtScene = refl
status_back Leaving = refl
status_back AtHospital = refl
status_back Returning = refl
status_back Offered = refl

button_back : (b : Button) → button_in (button_code b) ≡ b
button_back button.Position = refl
button_back button.Mobile = refl
button_back button.Scene = refl
button_back button.Leave = refl
button_back button.Hospital = refl
button_back button.Return = refl
button_back button.Home = refl

outcome_back : (o : Outcome) → outcome_in (outcome_code o) ≡ o
outcome_back Normal = refl
outcome_back Skipped = refl
outcome_back Wrong = refl
outcome_back Late = refl
outcome_back Stale = refl

state_back : (s : State) → state_in (number (state_number s)) (number_or_null (merged_into s)) ≡ s
state_back Active = refl
state_back Closed = refl
state_back (Merged n) = refl

terminal_back : (t : Terminal) → terminal_in (terminal_row t) ≡ t
terminal_back t = go t.token t.who
  where
    go : (token : List ℕ) (w : Who) → (let t : Terminal =
        record { token = token; who = w } in terminal_in (terminal_row t) ≡ t)
    go token (Desk d) = refl
    go token (Crew c) = refl
    go token (Position p) = refl

-- ---- rows

pub version_faithful : (version : ℕ) → IsFaithful nat_cmp meta_key (version_row version) (0 ∷ [])
version_faithful version = record {
  read = zone_in;
  read_back = λ z. refl;
  total = nat_cmp_total;
  ordered = λ x y. key_of_one (value_cmp-numbers 1 1);
}

pub meta_faithful : IsFaithful nat_cmp meta_key meta_row (0 ∷ [])
meta_faithful = version_faithful 2

-- of whichever version
abbrev pub pair_row : ℕ × List ℕ → Row
pair_row pair = version_row pair.0 pair.1

pub pair_faithful : IsFaithful nat_cmp (λ (pair : ℕ × List ℕ). meta_key pair.1) pair_row (0 ∷ [])
pair_faithful = record {
  read = λ r. (number_in (column r 1), zone_in r);
  read_back = λ pair. refl;
  total = nat_cmp_total;
  ordered = λ x y. key_of_one (value_cmp-numbers 1 1);
}

pub area_faithful : IsFaithful nat_cmp area_key area_row (0 ∷ [])
area_faithful = record {
  read = area_in;
  read_back = λ a. refl;
  total = nat_cmp_total;
  ordered = λ x y. key_of_one (value_cmp-numbers x.0 y.0);
}

pub terminal_faithful : IsFaithful token_cmp terminal_key terminal_row (1 ∷ [])
terminal_faithful = record {
  read = terminal_in;
  read_back = terminal_back;
  total = nat_list_cmp_total;
  ordered = λ x y. key_of_one (value_cmp-Text x.token y.token);
}

pub division_faithful : IsFaithful nat_cmp division_key division_row (0 ∷ [])
division_faithful = record {
  read = division_in;
  read_back = λ x. refl;
  total = nat_cmp_total;
  ordered = λ x y. key_of_one (value_cmp-numbers x.number y.number);
}

pub incident_faithful : IsFaithful pair_cmp incident_key incident_row (1 ∷ 2 ∷ [])
incident_faithful = record {
  read = incident_in;
  read_back = λ x i. record x { first_order = option_back x.first_order i; state = state_back x.state i };
  total = pairs_total;
  ordered = λ x y. key_of_two (value_cmp-numbers x.division y.division) (value_cmp-numbers x.number y.number);
}

pub call_faithful : IsFaithful pair_cmp call_key call_row (1 ∷ 2 ∷ [])
call_faithful = record {
  read = call_in;
  read_back = λ x i. record x { linked = truth_back x.linked i };
  total = pairs_total;
  ordered = λ x y. key_of_two (value_cmp-numbers x.position y.position) (value_cmp-numbers x.serial y.serial);
}

pub vehicle_faithful : IsFaithful callsign_cmp vehicle_key vehicle_row (1 ∷ [])
vehicle_faithful = record {
  read = vehicle_in;
  read_back =
      λ x i. record x { kind = kind_back x.kind i; status = status_back x.status i; post = option_back x.post i };
  total = nat_list_cmp_total;
  ordered = λ x y. key_of_one (value_cmp-Text x.callsign y.callsign);
}

pub turn_faithful : IsFaithful numbered_cmp turn_key turn_row (1 ∷ 2 ∷ [])
turn_faithful = record {
  read = turn_in;
  read_back = λ x i. record x {
    kind = kind_back x.kind i;
    acknowledged = option_back x.acknowledged i;
    scene = option_back x.scene i;
    left = option_back x.left i;
    hospital = option_back x.hospital i;
    ended = option_back x.ended i;
    stood_down = truth_back x.stood_down i;
  };
  total = numbered_total;
  ordered = λ x y. key_of_two (value_cmp-Text x.callsign y.callsign) (value_cmp-numbers x.order y.order);
}

pub assignment_faithful : IsFaithful callsign_cmp assignment_key assignment_row (1 ∷ [])
assignment_faithful = record {
  read = assignment_in;
  read_back = λ x. refl;
  total = nat_list_cmp_total;
  ordered = λ x y. key_of_one (value_cmp-Text x.callsign y.callsign);
}

pub point_faithful : IsFaithful pair_cmp point_key point_row (1 ∷ 2 ∷ [])
point_faithful = record {
  read = point_in;
  read_back = λ x. refl;
  total = pairs_total;
  ordered = λ x y. key_of_two (value_cmp-numbers x.division y.division) (value_cmp-numbers x.number y.number);
}

pub loan_faithful : IsFaithful callsign_cmp loan_key loan_row (1 ∷ [])
loan_faithful = record {
  read = loan_in;
  read_back = λ x i. record x { recalled = truth_back x.recalled i };
  total = nat_list_cmp_total;
  ordered = λ x y. key_of_one (value_cmp-Text x.callsign y.callsign);
}

pub report_faithful : IsFaithful numbered_cmp report_key report_row (1 ∷ 2 ∷ [])
report_faithful = record {
  read = report_in;
  read_back =
      λ x i. record x {
        button = button_back x.button i;
        outcome = outcome_back x.outcome i;
        status = status_back x.status i;
        cleared = truth_back x.cleared i;
      };
  total = numbered_total;
  ordered = λ x y. key_of_two (value_cmp-Text x.callsign y.callsign) (value_cmp-numbers x.number y.number);
}

pub offer_faithful : IsFaithful callsign_cmp offer_key offer_row (1 ∷ [])
offer_faithful = record {
  read = offer_in;
  read_back = λ x. refl;
  total = nat_list_cmp_total;
  ordered = λ x y. key_of_one (value_cmp-Text x.callsign y.callsign);
}
