-- What a value of the room is in a column, and which value a column stands for.
use Rattle.std.specs.Prelude.{ℕ, pos, Bool, if◌then◌else◌, List, [], Option, Some, None, ◌==◌}
use Rattle.sqlite_value.specs.declared.value.Value.{Value}
use Rattle.sqlite_value.specs.declared.value.Value.TheVariants.{Int, Text, Blob}
use Rattle.room_tables_schema.specs.TypedRows.{number}
use Rattle.room_types.specs.Codes.{kind_number, status_number, button_number, outcome_number}
use Rattle.room_types.specs.declared.codes.Kind.{Kind}
use Rattle.room_types.specs.declared.codes.Kind.TheVariants.{Ambulance, Car, Support}
use Rattle.room_types.specs.declared.codes.Status.{Status}
use Rattle.room_types.specs.declared.codes.Status.TheVariants.{OffDuty, Available, Mobilised}
use Rattle.room_types.specs.declared.codes.Status.TheVariants.{AtScene, Leaving, AtHospital}
use Rattle.room_types.specs.declared.codes.Status.TheVariants.{Returning, Offered}
use Rattle.room_types.specs.declared.codes.Button.{Button}
use Rattle.room_types.specs.declared.codes.Button.TheVariants as button
use Rattle.room_types.specs.declared.codes.Outcome.{Outcome}
use Rattle.room_types.specs.declared.codes.Outcome.TheVariants.{Normal, Skipped, Wrong, Late, Stale}
use Rattle.room_types.specs.declared.codes.State.{State}
use Rattle.room_types.specs.declared.codes.State.TheVariants.{Active, Closed, Merged}

-- ---- a value in a column

-- a truth value is 0 or 1
abbrev pub truth : Bool → Value
truth b = Int (if b then pos 1 else pos 0)

abbrev pub kind_code : Kind → Value
kind_code k = number (kind_number k)

abbrev pub status_code : Status → Value
status_code s = number (status_number s)

abbrev pub button_code : Button → Value
button_code b = number (button_number b)

abbrev pub outcome_code : Outcome → Value
outcome_code o = number (outcome_number o)

-- ---- the value that a column stands for; any value, where it stands for none

abbrev pub number_in : Value → ℕ
number_in (Int (pos n)) = n
number_in v = 0

abbrev pub number_or_none : Value → Option ℕ
number_or_none (Int (pos n)) = Some n
number_or_none v = None

abbrev pub text_in : Value → List ℕ
text_in (Text t) = t
text_in v = []

abbrev pub text_or_none : Value → Option (List ℕ)
text_or_none (Text t) = Some t
text_or_none v = None

abbrev pub blob_in : Value → List ℕ
blob_in (Blob b) = b
blob_in v = []

abbrev pub truth_in : Value → Bool
truth_in v = number_in v == 1

abbrev pub kind_in : Value → Kind
kind_in v = if number_in v == 1 then Ambulance else (if number_in v == 2 then Car else Support)

abbrev pub status_in : Value → Status
status_in v =
    if number_in v == 0 then OffDuty else
    (if number_in v == 1 then Available else
    (if number_in v == 2 then Mobilised else
    (if number_in v == 3 then AtScene else
    (if number_in v == 4 then Leaving else
    (if number_in v == 5 then AtHospital else
    (if number_in v == 6 then Returning else Offered))))))

abbrev pub button_in : Value → Button
button_in v =
    if number_in v == 0 then button.Position else
    (if number_in v == 1 then button.Mobile else
    (if number_in v == 2 then button.Scene else
    (if number_in v == 3 then button.Leave else
    (if number_in v == 4 then button.Hospital else
    (if number_in v == 5 then button.Return else button.Home)))))

abbrev pub outcome_in : Value → Outcome
outcome_in v =
    if number_in v == 0 then Normal else
    (if number_in v == 1 then Skipped else
    (if number_in v == 2 then Wrong else
    (if number_in v == 3 then Late else Stale)))

-- the state of these two columns
abbrev pub state_in : Value → Value → State
state_in v into = if number_in v == 0 then Active else
    (if number_in v == 1 then Closed else Merged (number_in into))
