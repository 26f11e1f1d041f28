-- The numbers and names of kinds, statuses, buttons, outcomes and states, and tests of them.
use Rattle.std.specs.Prelude.{◌≡◌, ℕ, Bool, true, false, not, ◌&&◌, List, Option, Some, None}
use Rattle.std.specs.Prelude.{IfSome, codes}
use Rattle.room_types.specs.declared.codes.Kind.{Kind}
use Rattle.room_types.specs.declared.codes.Kind.TheVariants.{Ambulance, Car, Support}
use Rattle.room_types.specs.declared.codes.Status.{Status}
use Rattle.room_types.specs.declared.codes.Status.TheVariants.{OffDuty, Available, Mobilised}
use Rattle.room_types.specs.declared.codes.Status.TheVariants.{AtScene, Leaving, AtHospital}
use Rattle.room_types.specs.declared.codes.Status.TheVariants.{Returning, Offered}
use Rattle.room_types.specs.declared.codes.Button.{Button}
use Rattle.room_types.specs.declared.codes.Button.TheVariants as button
use Rattle.room_types.specs.declared.codes.Outcome.{Outcome}
use Rattle.room_types.specs.declared.codes.Outcome.TheVariants.{Normal, Skipped, Wrong, Late, Stale}
use Rattle.room_types.specs.declared.codes.State.{State}
use Rattle.room_types.specs.declared.codes.State.TheVariants.{Active, Closed, Merged}
use Rattle.room_types.specs.declared.tables.Report.{Report}

-- what is read from a label (a number, a name) is the one code that has it, and none where no code
-- has it
pub record Decodes {C L : Type 0} (label_of : C → L) (label : L) (read : Option C) : Type 0 where
  pub has_it : IfSome read (λ c. label_of c ≡ label)
  pub only_one : (c : C) → label_of c ≡ label → read ≡ Some c

abbrev pub kind_number : Kind → ℕ
kind_number Ambulance = 1
kind_number Car = 2
kind_number Support = 3

abbrev pub same_kind : Kind → Kind → Bool
same_kind Ambulance Ambulance = true
same_kind Car Car = true
same_kind Support Support = true
same_kind a b = false

abbrev pub status_number : Status → ℕ
status_number OffDuty = 0
status_number Available = 1
status_number Mobilised = 2
status_number AtScene = 3
status_number Leaving = 4
status_number AtHospital = 5
status_number Returning = 6
status_number Offered = 7

-- may be sent: available or returning
abbrev pub is_free : Status → Bool
is_free Available = true
is_free Returning = true
is_free s = false

-- has an order: from mobilised to at hospital
abbrev pub is_busy : Status → Bool
is_busy Mobilised = true
is_busy AtScene = true
is_busy Leaving = true
is_busy AtHospital = true
is_busy s = false

abbrev pub is_off : Status → Bool
is_off OffDuty = true
is_off s = false

abbrev pub is_mobilised : Status → Bool
is_mobilised Mobilised = true
is_mobilised s = false

abbrev pub is_offered : Status → Bool
is_offered Offered = true
is_offered s = false

abbrev pub button_number : Button → ℕ
button_number button.Position = 0
button_number button.Mobile = 1
button_number button.Scene = 2
button_number button.Leave = 3
button_number button.Hospital = 4
button_number button.Return = 5
button_number button.Home = 6

abbrev pub button_name : Button → List ℕ
button_name button.Position = codes "position"
button_name button.Mobile = codes "mobile"
button_name button.Scene = codes "scene"
button_name button.Leave = codes "leave"
button_name button.Hospital = codes "hospital"
button_name button.Return = codes "return"
button_name button.Home = codes "home"

abbrev pub same_button : Button → Button → Bool
same_button button.Position button.Position = true
same_button button.Mobile button.Mobile = true
same_button button.Scene button.Scene = true
same_button button.Leave button.Leave = true
same_button button.Hospital button.Hospital = true
same_button button.Return button.Return = true
same_button button.Home button.Home = true
same_button a b = false

abbrev pub outcome_number : Outcome → ℕ
outcome_number Normal = 0
outcome_number Skipped = 1
outcome_number Wrong = 2
outcome_number Late = 3
outcome_number Stale = 4

abbrev pub outcome_name : Outcome → List ℕ
outcome_name Normal = codes "normal"
outcome_name Skipped = codes "skipped"
outcome_name Wrong = codes "wrong"
outcome_name Late = codes "late"
outcome_name Stale = codes "stale"

-- no exception: nothing for the queue
abbrev pub is_normal : Outcome → Bool
is_normal Normal = true
is_normal o = false

-- an exception: the report was out of turn, and nobody has cleared it
abbrev pub is_exception : Report → Bool
is_exception x = not (is_normal x.outcome) && not x.cleared

-- the vehicle does what the button says
abbrev pub acts : Outcome → Bool
acts Normal = true
acts Skipped = true
acts o = false

abbrev pub state_number : State → ℕ
state_number Active = 0
state_number Closed = 1
state_number (Merged n) = 2

-- the incident that one was merged into
abbrev pub merged_into : State → Option ℕ
merged_into Active = None
merged_into Closed = None
merged_into (Merged n) = Some n

-- how a state is stored: its number, and the incident that it was merged into
abbrev pub state_columns : State → ℕ × Option ℕ
state_columns s = (state_number s, merged_into s)

abbrev pub is_active : State → Bool
is_active Active = true
is_active s = false

abbrev pub is_merged : State → Bool
is_merged (Merged n) = true
is_merged s = false
