-- A desk's asks about the vehicles that it holds.
use Rattle.std.specs.Prelude.{Bool, List, None, Option, Some, [], false, is_some, map, nat_le, not}
use Rattle.std.specs.Prelude.{option_map, true, ℕ, ◌++◌, ◌+◌, ◌∷◌}
use Rattle.room_place.specs.declared.places.Place.{Place}
use Rattle.room_types.specs.declared.answers.VehicleLine.{VehicleLine}
use Rattle.room_types.specs.declared.changes.Change.{Change}
use Rattle.room_types.specs.declared.changes.Change.TheVariants.{DropAssignment, PutAssignment}
use Rattle.room_types.specs.declared.changes.Change.TheVariants.{PutIncident, PutTurn, PutVehicle}
use Rattle.room_types.specs.declared.codes.Kind.{Kind}
use Rattle.room_types.specs.declared.codes.Status.TheVariants.{Available, Mobilised, OffDuty}
use Rattle.room_types.specs.declared.codes.Status.TheVariants.{Returning}
use Rattle.room_types.specs.declared.tables.Assignment.{Assignment}
use Rattle.room_types.specs.declared.tables.Incident.{Incident}
use Rattle.room_types.specs.declared.tables.Loan.{Loan}
use Rattle.room_types.specs.declared.tables.Turn.{Turn}
use Rattle.room_types.specs.declared.tables.Vehicle.{Vehicle}
use Rattle.room_types.specs.Texts.{Callsign}
use Rattle.room_types.specs.Codes.{is_busy, is_free, is_mobilised, is_off}
use Rattle.room_types.specs.Needs.{need_of}
use Rattle.room_model.specs.Decisions.{Verdict, done, refuse_if, show, where_active, where_held}
use Rattle.room_model.specs.Decisions.{with_changes}
use Rattle.room_model.specs.Moments.{first_of, number_limit}
use Rattle.room_model.specs.Queries.{all_held, assignment_of, held, incident_of, lent, open_turn}
use Rattle.room_model.specs.Queries.{point_of, served}
use Rattle.room_model.specs.Room.{Room}
use Rattle.room_types.specs.declared.answers.Answer.TheVariants as answer
use Rattle.room_types.specs.declared.refusal_statuses.Refusal.TheVariants as refusal

-- ---- vehicles
abbrev pub vehicle_line : ℕ → Room → Vehicle → VehicleLine
vehicle_line d r v = record {
  callsign = v.callsign;
  home = v.home;
  incident = option_map (λ a. a.incident) (assignment_of d v.callsign r);
  kind = v.kind;
  place = v.place;
  post = v.post;
  shift_end = v.shift_end;
  status = v.status;
}

unfoldable pub show_vehicles : ℕ → Room → Verdict
show_vehicles d r = show (answer.Vehicles (map (vehicle_line d r) (all_held d r)))

-- ---- mobilise
abbrev pub turn_row : ℕ → ℕ → ℕ → Vehicle → Turn
turn_row d n at v = record {
  callsign = v.callsign;
  order = v.last_order + 1;
  division = d;
  incident = n;
  kind = v.kind;
  ordered = at;
  acknowledged = None;
  scene = None;
  left = None;
  hospital = None;
  ended = None;
  stood_down = false;
}

abbrev pub assignment_row : ℕ → Incident → Vehicle → Assignment
assignment_row d i v = record {
  callsign = v.callsign;
  division = d;
  incident = i.number;
  order = v.last_order + 1;
  place = i.place;
  class = i.class;
}

abbrev pub mobilised : ℕ → Incident → ℕ → (Kind → ℕ) → Vehicle → Verdict
mobilised d i at got v =
    refuse_if (not (is_free v.status)) refusal.WrongStatus
    (refuse_if (nat_le v.shift_end at) refusal.ShiftOver
    (refuse_if (nat_le (need_of i.needs v.kind) (got v.kind)) refusal.NotNeeded
    (refuse_if (nat_le number_limit v.last_order) refusal.NumbersUsedUp
    (with_changes (answer.Mobilised (v.last_order + 1) v.callsign)
    (PutIncident (record i { first_order = first_of i.first_order at })
    ∷ PutVehicle (record v { status = Mobilised; post = None; last_order = v.last_order + 1 })
    ∷ PutTurn (turn_row d i.number at v)
    ∷ PutAssignment (assignment_row d i v) ∷ [])))))

abbrev pub mobilise_held : ℕ → Option Vehicle → Option Loan → ℕ → (Kind → ℕ) → Incident → Verdict
mobilise_held d v l at got i = where_held v l (mobilised d i at got)

unfoldable pub mobilise : ℕ → ℕ → Callsign → ℕ → Room → Verdict
mobilise d n c at r = where_active (incident_of d n r)
    (mobilise_held d (held d c r) (lent d c r) at (λ k. served d n k r))

-- ---- stand down
abbrev pub turn_stood_down : ℕ → Option Turn → List Change
turn_stood_down at None = []
turn_stood_down at (Some t) = PutTurn (record t { ended = Some at; stood_down = true }) ∷ []

abbrev pub stand_down_held : ℕ → Option Turn → Vehicle → Verdict
stand_down_held at t v = refuse_if (not (is_mobilised v.status)) refusal.WrongStatus
    (done (turn_stood_down at t
    ++ DropAssignment v.callsign
    ∷ PutVehicle (record v { status = Returning }) ∷ []))

unfoldable pub stand_down : ℕ → Callsign → ℕ → Room → Verdict
stand_down d c at r = where_held (held d c r) (lent d c r) (stand_down_held at (open_turn d c r))

-- ---- standby
abbrev pub posted : Vehicle → Option ℕ → Verdict
posted v p = done (PutVehicle (record v { post = p }) ∷ [])

-- the point is looked up only where one is named
abbrev pub standby_at : Option ℕ → (ℕ → Bool) → ℕ → Vehicle → Verdict
standby_at None has at v = posted v None
standby_at (Some n) has at v =
    refuse_if (nat_le v.shift_end at) refusal.ShiftOver
    (refuse_if (not (has n)) refusal.NoSuchPoint (posted v (Some n)))

abbrev pub stands_by : Option ℕ → (ℕ → Bool) → ℕ → Vehicle → Verdict
stands_by p has at v =
    refuse_if (not (is_free v.status)) refusal.WrongStatus (standby_at p has at v)

unfoldable pub standby : ℕ → Callsign → Option ℕ → ℕ → Room → Verdict
standby d c p at r = where_held (held d c r) (lent d c r)
    (stands_by p (λ n. is_some (point_of d n r)) at)

-- ---- duty
abbrev pub on_duty : Place → ℕ → ℕ → Vehicle → Verdict
on_duty place until at v = refuse_if (not (is_off v.status)) refusal.WrongStatus
    (refuse_if (nat_le until at) refusal.ShiftOver
    (done (PutVehicle (record v { status = Available; shift_end = until; place = place }) ∷ [])))

unfoldable pub duty : ℕ → Callsign → Place → ℕ → ℕ → Room → Verdict
duty d c place until at r = where_held (held d c r) (lent d c r) (on_duty place until at)

-- ---- off
abbrev pub off_duty : Vehicle → Verdict
off_duty v = refuse_if (is_busy v.status) refusal.StillAssigned
    (refuse_if (not (is_free v.status)) refusal.WrongStatus
    (done (PutVehicle (record v { status = OffDuty; post = None }) ∷ [])))

unfoldable pub off : ℕ → Callsign → Room → Verdict
off d c r = where_held (held d c r) (lent d c r) off_duty
