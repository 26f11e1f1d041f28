-- What the values of an answer's JSON say.
use Rattle.std.specs.Prelude.{◌≡◌, ◌≤◌, ℕ, List, [], length, Bool, true, Option, Some, None}
use Rattle.std.specs.Prelude.{MatchOption, option_and_then}
use Rattle.serde_json.specs.Data.{Data}
use Rattle.serde_json.specs.Find.{as_bool, as_null, as_number, as_str, as_u64, at, get}
use Rattle.room_place.specs.declared.places.Place.{Place}
use Rattle.room_types.specs.Codes.{button_name, kind_number, outcome_name, status_number}
use Rattle.room_types.specs.Needs.{is_some_need}
use Rattle.room_types.specs.Ranks.{rank_number}
use Rattle.room_types.specs.Texts.{is_callsign}
use Rattle.room_types.specs.declared.codes.Button.{Button}
use Rattle.room_types.specs.declared.codes.Kind.{Kind}
use Rattle.room_types.specs.declared.codes.Outcome.{Outcome}
use Rattle.room_types.specs.declared.codes.Status.{Status}
use Rattle.room_types.specs.declared.answers.Served.{Served}
use Rattle.room_types.specs.declared.needs.Counts.{Counts}
use Rattle.room_types.specs.declared.ranks.Rank.{Rank}

-- what is read: the one of which this holds, or none where it holds of none
pub record IsRead {T : Type 0} (holds : T → Type 0) (read : Option T) : Type 0 where
  pub is : MatchOption read ((it : T) → ¬ holds it) holds

-- it is this whole number
abbrev pub IsWhole : Data → ℕ → Type 0
IsWhole d n = option_and_then as_u64 (as_number d) ≡ Some n

-- it is this whole number, from the least to the greatest
abbrev pub IsFrom : ℕ → ℕ → Data → ℕ → Type 0
IsFrom least greatest d n = IsWhole d n × (least ≤ n) × (n ≤ greatest)

-- it is this number, of those that one byte or four bytes write
abbrev pub IsByte : Data → ℕ → Type 0
IsByte = IsFrom 0 255

abbrev pub IsWord : Data → ℕ → Type 0
IsWord = IsFrom 0 4294967295

-- the number of an incident or an order, or a call's serial
abbrev pub IsNumber : Data → ℕ → Type 0
IsNumber = IsFrom 1 2147483647

-- a number that was given last: 0 where none was
abbrev pub IsLast : Data → ℕ → Type 0
IsLast = IsFrom 0 2147483647

-- the number of a division, a standby point or a call taker's position
abbrev pub IsDivision : Data → ℕ → Type 0
IsDivision = IsFrom 1 9

abbrev pub IsPosition : Data → ℕ → Type 0
IsPosition = IsFrom 1 99

abbrev pub IsPoint : Data → ℕ → Type 0
IsPoint = IsFrom 1 99

-- how urgent an incident is
abbrev pub IsClass : Data → ℕ → Type 0
IsClass = IsFrom 1 3

-- how many vehicles of a kind, or at a standby point, are wanted or lacking
abbrev pub IsNeed : Data → ℕ → Type 0
IsNeed = IsFrom 0 9

-- the last second of 2099
abbrev pub last_moment : ℕ
last_moment = 4102444799

abbrev pub IsMoment : Data → ℕ → Type 0
IsMoment = IsFrom 0 last_moment

-- it is this text
abbrev pub IsText : Data → List ℕ → Type 0
IsText d text = as_str d ≡ Some text

-- it is this text, a callsign
abbrev pub IsCallsign : Data → List ℕ → Type 0
IsCallsign d text = IsText d text × (is_callsign text ≡ true)

-- it is this text, short enough for a call's note
abbrev pub IsNote : Data → List ℕ → Type 0
IsNote d text = IsText d text × (length text ≤ 120)

abbrev pub IsBool : Data → Bool → Type 0
IsBool d b = as_bool d ≡ Some b

-- it is null, or says what is there
abbrev pub IsOrNull : {T : Type 0} → (Data → T → Type 0) → Data → Option T → Type 0
IsOrNull says d None = as_null d ≡ Some tt
IsOrNull says d (Some it) = says d it

abbrev pub IsKind : Data → Kind → Type 0
IsKind d kind = IsWhole d (kind_number kind)

abbrev pub IsStatus : Data → Status → Type 0
IsStatus d status = IsWhole d (status_number status)

-- it is the name of this button, or of this outcome
abbrev pub IsButton : Data → Button → Type 0
IsButton d button = IsText d (button_name button)

abbrev pub IsOutcome : Data → Outcome → Type 0
IsOutcome d outcome = IsText d (outcome_name outcome)

abbrev pub IsRank : Data → Rank → Type 0
IsRank d rank = IsWhole d (rank_number rank)

-- its member of a name says it
abbrev pub HasMember : {T : Type 0} → (Data → T → Type 0) → List ℕ → Data → T → Type 0
HasMember says name d it = (m : Data) × (get name d ≡ Some m) × says m it

-- its item at a place says it
abbrev pub HasItem : {T : Type 0} → (Data → T → Type 0) → ℕ → Data → T → Type 0
HasItem says i d it = (m : Data) × (at i d ≡ Some m) × says m it

-- a list of ambulances, cars and support
abbrev pub IsCounts : Data → Counts → Type 0
IsCounts d c =
    HasItem IsNeed 0 d c.ambulances × HasItem IsNeed 1 d c.cars × HasItem IsNeed 2 d c.support

-- such a list, with at least one vehicle
abbrev pub IsNeeds : Data → Counts → Type 0
IsNeeds d c = IsCounts d c × (is_some_need c ≡ true)

-- a list of whole numbers: ambulances, cars and support
abbrev pub IsServed : Data → Served → Type 0
IsServed d s =
    HasItem IsWhole 0 d s.ambulances × HasItem IsWhole 1 d s.cars × HasItem IsWhole 2 d s.support

-- a list of metres of easting and northing, of a place in the squares
abbrev pub IsPlace : Data → Place → Type 0
IsPlace d p = HasItem (IsFrom 400000 599999) 0 d p.east × HasItem (IsFrom 100000 299999) 1 d p.north

-- a vehicle's callsign, or an empty text where there is none
abbrev pub IsVehicle : Data → Option (List ℕ) → Type 0
IsVehicle d None = IsText d []
IsVehicle d (Some callsign) = IsCallsign d callsign
