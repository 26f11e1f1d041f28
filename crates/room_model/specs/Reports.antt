-- A crew's reports. The table of buttons comes first: what each makes of a status. Then what a
-- report comes to, what it changes, and last whose report it is.
use Rattle.std.specs.Prelude.{Bool, Err, List, None, Option, Some, [], cond, false, is_some, max}
use Rattle.std.specs.Prelude.{nat_lt, not, true, ℕ, ◌&&◌, ◌++◌, ◌==◌, ◌||◌, ◌∷◌}
use Rattle.room_place.specs.Places.{same_place}
use Rattle.room_types.specs.declared.asks.Press.{Press}
use Rattle.room_types.specs.declared.changes.Change.{Change}
use Rattle.room_types.specs.declared.changes.Change.TheVariants.{DropAssignment, DropLoan}
use Rattle.room_types.specs.declared.changes.Change.TheVariants.{PutReport, PutTurn, PutVehicle}
use Rattle.room_types.specs.declared.codes.Button.{Button}
use Rattle.room_types.specs.declared.codes.Outcome.{Outcome}
use Rattle.room_types.specs.declared.codes.Outcome.TheVariants.{Late, Normal, Skipped, Stale, Wrong}
use Rattle.room_types.specs.declared.codes.Status.{Status}
use Rattle.room_types.specs.declared.codes.Status.TheVariants.{AtHospital, AtScene, Available}
use Rattle.room_types.specs.declared.codes.Status.TheVariants.{Leaving, Mobilised, OffDuty, Offered}
use Rattle.room_types.specs.declared.codes.Status.TheVariants.{Returning}
use Rattle.room_types.specs.declared.tables.Assignment.{Assignment}
use Rattle.room_types.specs.declared.tables.Loan.{Loan}
use Rattle.room_types.specs.declared.tables.Report.{Report}
use Rattle.room_types.specs.declared.tables.Turn.{Turn}
use Rattle.room_types.specs.declared.tables.Vehicle.{Vehicle}
use Rattle.room_types.specs.Texts.{Callsign}
use Rattle.room_types.specs.Codes.{acts, same_button}
use Rattle.room_model.specs.Decisions.{Verdict, refuse_if, show, where_found, with_changes}
use Rattle.room_model.specs.Loans.{lender_of}
use Rattle.room_model.specs.Moments.{first_of}
use Rattle.room_model.specs.Queries.{assignment_at, borrowed, held, kept_report, open_turn}
use Rattle.room_model.specs.Queries.{vehicle_at}
use Rattle.room_model.specs.Room.{Room}
use Rattle.room_types.specs.declared.answers.Answer.TheVariants as answer
use Rattle.room_types.specs.declared.codes.Button.TheVariants as button
use Rattle.room_types.specs.declared.refusal_statuses.Refusal.TheVariants as refusal

-- ---- the table
-- what a button comes to at each status, by the first line that holds: those that are normal or
-- skipped stand here, and the rest is wrong. Scene at a mobilised vehicle asks whether the order is
-- acknowledged.
abbrev pub press : Status → Button → Bool → Outcome
press OffDuty b seen = Wrong
press s button.Position seen = Normal
press Available button.Home seen = Normal
press Mobilised button.Mobile seen = Normal
press Mobilised button.Scene seen = cond seen Normal Skipped
press Mobilised b seen = Skipped
press AtScene button.Scene seen = Normal
press AtScene button.Leave seen = Normal
press AtScene button.Hospital seen = Skipped
press AtScene button.Return seen = Normal
press AtScene button.Home seen = Skipped
press Leaving button.Leave seen = Normal
press Leaving button.Hospital seen = Normal
press Leaving button.Return seen = Skipped
press Leaving button.Home seen = Skipped
press AtHospital button.Hospital seen = Normal
press AtHospital button.Return seen = Normal
press AtHospital button.Home seen = Skipped
press Returning button.Return seen = Normal
press Returning button.Home seen = Normal
press Offered button.Home seen = Normal
press s b seen = Wrong

-- the status after a button that acts; Position and, where it sets none, Home keep it
abbrev pub status_after : Status → Button → Status
status_after s button.Position = s
status_after s button.Mobile = s
status_after s button.Scene = AtScene
status_after s button.Leave = Leaving
status_after s button.Hospital = AtHospital
status_after s button.Return = Returning
status_after Offered button.Home = Offered
status_after s button.Home = Available

-- the button speaks of an order
abbrev pub names_order : Button → Bool
names_order button.Position = false
names_order button.Mobile = true
names_order button.Scene = true
names_order button.Leave = true
names_order button.Hospital = true
names_order button.Return = true
names_order button.Home = false

-- what a button that acts writes into the open turn
abbrev pub turn_after : Button → ℕ → Turn → Turn
turn_after button.Position at t = t
turn_after button.Mobile at t = record t { acknowledged = first_of t.acknowledged at }
turn_after button.Scene at t = record t { scene = first_of t.scene at }
turn_after button.Leave at t = record t { left = first_of t.left at }
turn_after button.Hospital at t = record t { hospital = first_of t.hospital at }
turn_after button.Return at t = record t { ended = Some at }
turn_after button.Home at t = record t { ended = Some at }

-- the button ends the turn, and with it the assignment
abbrev pub ends_turn : Button → Bool
ends_turn button.Position = false
ends_turn button.Mobile = false
ends_turn button.Scene = false
ends_turn button.Leave = false
ends_turn button.Hospital = false
ends_turn button.Return = true
ends_turn button.Home = true

-- the button that takes a lent vehicle back
abbrev pub is_home : Button → Bool
is_home button.Position = false
is_home button.Mobile = false
is_home button.Scene = false
is_home button.Leave = false
is_home button.Hospital = false
is_home button.Return = false
is_home button.Home = true

-- ---- what a report comes to
abbrev pub is_acknowledged : Option Turn → Bool
is_acknowledged None = false
is_acknowledged (Some t) = is_some t.acknowledged

-- what a report with a new number comes to
abbrev pub outcome_of : Vehicle → Option Turn → Press → Outcome
outcome_of v t p =
    cond (nat_lt p.number v.last_report) Late
    (cond (names_order p.button && not (p.order == v.last_order)) Stale
    (press v.status p.button (is_acknowledged t)))

-- ---- what a report changes
-- the vehicle has to go back to its lender
abbrev pub is_due : ℕ → Option Loan → Bool
is_due at None = false
is_due at (Some l) = l.recalled || nat_lt l.until at

-- every report counts for the last number
abbrev pub with_report : Vehicle → Press → Vehicle
with_report v p = record v { last_report = max v.last_report p.number }

-- the vehicle after a report that acts, which may send it back to its lender
abbrev pub vehicle_after : Vehicle → Option Loan → Press → Bool → Vehicle
vehicle_after v l p back = record (with_report v p) {
  status = status_after v.status p.button;
  place = p.place;
  holder = cond back (lender_of v l) v.holder;
  post = cond back None v.post;
}

abbrev pub report_row : Vehicle → Press → ℕ → Outcome → Status → Report
report_row v p at o s = record {
  callsign = v.callsign;
  number = p.number;
  button = p.button;
  order = p.order;
  place = p.place;
  at = at;
  division = v.holder;
  outcome = o;
  status = s;
  cleared = false;
}

abbrev pub turn_changes : Button → ℕ → Option Turn → List Change
turn_changes b at None = []
turn_changes b at (Some t) = PutTurn (turn_after b at t) ∷ []

abbrev pub drop_changes : Callsign → Bool → List Change
drop_changes c false = []
drop_changes c true = DropAssignment c ∷ []

abbrev pub back_changes : Callsign → Bool → List Change
back_changes c false = []
back_changes c true = DropLoan c ∷ []

-- a report that acts; the vehicle's row comes last
abbrev pub report_acts :
    Vehicle → Option Turn → Option Loan → Press → ℕ → Outcome → Bool → List Change
report_acts v t l p at o back =
    PutReport (report_row v p at o (status_after v.status p.button))
    ∷ turn_changes p.button at t
    ++ (drop_changes v.callsign (ends_turn p.button)
    ++ (back_changes v.callsign back
    ++ PutVehicle (vehicle_after v l p back) ∷ []))

-- a report that does not act is kept, and changes no more
abbrev pub report_made : Vehicle → Option Turn → Option Loan → Press → ℕ → Outcome → Verdict
report_made v t l p at o = cond (acts o)
    (with_changes (answer.Reported p.number o (status_after v.status p.button))
    (report_acts v t l p at o (is_home p.button && is_due at l)))
    (with_changes (answer.Reported p.number o v.status)
    (PutReport (report_row v p at o v.status)
    ∷ PutVehicle (with_report v p) ∷ []))

-- ---- whose report it is
abbrev pub report_held : Option Vehicle → Option Turn → Option Loan → Press → ℕ → Verdict
report_held None t l p at = Err refusal.NoSuchVehicle
report_held (Some v) t l p at = report_made v t l p at (outcome_of v t p)

-- a report that is not kept, of a vehicle that division d holds
unfoldable pub report_in : ℕ → Callsign → Press → ℕ → Room → Verdict
report_in d c p at r = report_held (held d c r) (open_turn d c r) (borrowed d c r) p at

abbrev pub same_press : Report → Press → Bool
same_press k p = same_button k.button p.button && (k.order == p.order && same_place k.place p.place)

abbrev pub report_somewhere : Option Vehicle → Callsign → Press → ℕ → Room → Verdict
report_somewhere None c p at r = Err refusal.NoSuchVehicle
report_somewhere (Some v) c p at r = report_in v.holder c p at r

-- a kept number gets its kept reply before anything else
abbrev pub report_kept : Option Report → Callsign → Press → ℕ → Room → Verdict
report_kept (Some k) c p at r = refuse_if (not (same_press k p)) refusal.NumberReused
    (show (answer.Reported k.number k.outcome k.status))
report_kept None c p at r = report_somewhere (vehicle_at c r) c p at r

abbrev pub take_report : Callsign → Press → ℕ → Room → Verdict
take_report c p at r = report_kept (kept_report c p.number r) c p at r

-- ---- the order
abbrev pub order_of : Option Vehicle → Option Assignment → Verdict
order_of found a =
    where_found found refusal.NoSuchVehicle (λ v. show (answer.Order a v.post v.status))

abbrev pub show_order : Callsign → Room → Verdict
show_order c r = order_of (vehicle_at c r) (assignment_at c r)

-- ---- the last numbers, of its reports and its orders
abbrev pub last_of : Option Vehicle → Verdict
last_of found =
    where_found found refusal.NoSuchVehicle
    (λ v. show (answer.LastReport v.last_report v.last_order))

abbrev pub show_last : Callsign → Room → Verdict
show_last c r = last_of (vehicle_at c r)
