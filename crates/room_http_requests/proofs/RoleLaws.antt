-- That what a request asks for is of its target's role.
use Rattle.std.proofs.Common.{◌≡◌, ◌&&◌, ◌≤◌, ℕ, ℤ, List, Bool, true, false, refl, arith}
use Rattle.std.specs.Prelude.{if◌then◌else◌, Option, None, Some, IfSome, option_and_then}
use Rattle.std.specs.Prelude.{option_map}
use Rattle.std.proofs.lemmas.Bool.{and_parts}
use borrow.Author.Tests.{leb-true}
use Rattle.serde_json.specs.Data.{Data}
use Rattle.serde_json.specs.Find.{as_number, as_u64, get}
use Rattle.room_types.specs.declared.asks.Ask.{Ask}
use Rattle.room_types.specs.declared.asks.Ask.TheVariants as ask
use Rattle.room_types.specs.declared.asks.Who.{Who}
use Rattle.room_types.specs.declared.asks.Who.TheVariants.{Crew, Desk, Position}
use Rattle.room_types.specs.Numerals.{within}
use Rattle.room_http_requests.specs.declared.request_table.Target.{Target}
use Rattle.room_http_requests.specs.declared.request_table.Target.TheVariants as target
use Rattle.room_model.specs.Events.{IsNumbered}
use Rattle.room_model.specs.Room.{Room}
use Rattle.room_model.specs.Step.{is_crews, is_desks, is_for, is_positions}
use Rattle.room_http_time.specs.Dates.{Date}
use Rattle.room_http_requests.specs.RequestTable.{ask_without_body, between, is_known, is_of}
use Rattle.room_http_requests.specs.RequestTable.{or_posted, request_by, role_of}
use Rattle.room_http_requests.specs.Bodies.{and_then, call_form, exactly, duty, lend, merge}
use Rattle.room_http_requests.specs.Bodies.{ask_with_body, mobilise, moves, needs_change}
use Rattle.room_http_requests.specs.Bodies.{point_form, press, standby}
use Rattle.room_http_requests.specs.BodyFields.{fields_of, has_members, number_at, number_in}
use Rattle.room_http_requests.specs.declared.request_table.DayAsk.{DayAsk}
use Rattle.room_http_requests.specs.declared.request_table.DayAsk.TheVariants as of_day
use Rattle.room_http_requests.specs.declared.request_table.Request.{Request}
use Rattle.room_http_requests.specs.declared.request_table.Request.TheVariants as request
use Rattle.room_http_requests.specs.declared.request_table.Role.{Role}
use Rattle.room_http_requests.specs.declared.request_table.Role.TheVariants as role

-- ---- what holds of all that may be found
some_if : {A : Type 0} (P : A → Type 0) (test : Bool) (found : Option A) → IfSome found P
    → IfSome (if test then found else None) P
some_if P true found holds = holds
some_if P false found holds = tt

some_exactly : {A : Type 0} (P : A → Type 0) (count : ℕ) (fields : Data) (found : Option A)
    → IfSome found P → IfSome (exactly count fields found) P
unfolding exactly
some_exactly P count fields found holds = some_if P (has_members count fields) found holds

some_then : {A B : Type 0} (P : B → Type 0) (Q : A → Type 0) (found : Option A)
    (next : A → Option B) → IfSome found Q
    → ((x : A) → Q x → IfSome (next x) P) → IfSome (and_then found next) P
unfolding and_then
some_then P Q None next holds later = tt
some_then P Q (Some x) next holds later = later x holds

-- where nothing is known of what is found first
some_next : {A B : Type 0} (P : B → Type 0) (found : Option A) (next : A → Option B)
    → ((x : A) → IfSome (next x) P) → IfSome (and_then found next) P
unfolding and_then
some_next P None next later = tt
some_next P (Some x) next later = later x

some_map : {A B : Type 0} (P : B → Type 0) (found : Option A) (f : A → B)
    → IfSome found (λ x. P (f x)) → IfSome (option_map f found) P
some_map P None f holds = tt
some_map P (Some x) f holds = holds

some_any : {A : Type 0} (P : A → Type 0) (found : Option A) → ((x : A) → P x) → IfSome found P
some_any P None all = tt
some_any P (Some x) all = all x

some_more : {A : Type 0} (P Q : A → Type 0) (found : Option A) → IfSome found Q
    → ((x : A) → Q x → P x) → IfSome found P
some_more P Q None holds more = tt
some_more P Q (Some x) holds more = more x holds

-- a number of a range is not below it
if_least : (least n : ℕ) (test : Bool) → (test ≡ true → least ≤ n)
    → IfSome (if test then Some n else None) (λ m. least ≤ m)
if_least least n true holds = holds refl
if_least least n false holds = tt

from_least : (least greatest n : ℕ) → IfSome (within least greatest n) (λ m. least ≤ m)
from_least least greatest n = if_least least n _ (λ both. leb-true _ _ (and_parts _ _ both).0)

in_range : (least greatest : ℕ) (found : Option ℕ)
    → IfSome (option_and_then (within least greatest) found) (λ n. least ≤ n)
in_range least greatest None = tt
in_range least greatest (Some n) = from_least least greatest n

number_from : (least greatest : ℕ) (value : Option Data)
    → IfSome (option_and_then (number_in least greatest) value) (λ n. least ≤ n)
number_from least greatest None = tt
number_from least greatest (Some value) = in_range least greatest (option_and_then as_u64 (as_number value))

numbered : (least greatest : ℕ) (name : List ℕ) (fields : Data)
    → IfSome (number_at least greatest name fields) (λ n. least ≤ n)
unfolding number_at
numbered least greatest name fields = number_from least greatest (get name fields)

-- ---- roles
abbrev pub role_asks : Role → Ask → Bool
role_asks role.Desk a = is_desks a
role_asks role.Position a = is_positions a
role_asks role.Crew a = is_crews a
role_asks role.Sender a = is_crews a && is_positions a

-- the ask is of the target's role, and the number of a report is from 1
abbrev pub IsAskOf : Target → Ask → Type 0
IsAskOf t a = (role_asks (role_of t) a ≡ true) × IsNumbered a

-- what is asked of a day is a desk's
abbrev pub IsRequestOf : Target → Request → Type 0
IsRequestOf t (request.Ask a) = IsAskOf t a
IsRequestOf t (request.OfDay day x) = role_of t ≡ role.Desk

press_numbered : (fields : Data) → IfSome (press fields) (λ p. 1 ≤ p.number)
unfolding press
press_numbered fields =
    some_exactly _ _ _ _ (some_then _ (λ n. 1 ≤ n) _ _ (numbered 1 2147483647 _ fields)
    (λ n least. some_next _ _ _ (λ button. some_next _ _ _ (λ order. some_next _ _ _ (λ place. least)))))

posted_is : (t : Target) (fields : Data) → IfSome (ask_with_body t fields) (IsAskOf t)
unfolding mobilise needs_change merge moves standby duty lend point_form
posted_is target.Call fields =
    some_map (IsAskOf target.Call) (call_form fields) ask.Call
    (some_any (λ form. IsAskOf target.Call (ask.Call form)) _ (λ form. (refl, tt)))
posted_is (target.Mobilise n) fields =
    some_exactly (IsAskOf (target.Mobilise n)) _ _ _
    (some_next (IsAskOf (target.Mobilise n)) _ _ (λ vehicle. (refl, tt)))
posted_is (target.Needs n) fields =
    some_exactly (IsAskOf (target.Needs n)) _ _ _ (some_next (IsAskOf (target.Needs n)) _ _ (λ needs. (refl, tt)))
posted_is (target.Merge n) fields =
    some_exactly (IsAskOf (target.Merge n)) _ _ _ (some_next (IsAskOf (target.Merge n)) _ _ (λ into. (refl, tt)))
posted_is target.Moves fields =
    some_exactly (IsAskOf target.Moves) _ _ _
    (some_next (IsAskOf target.Moves) _ _ (λ ms. (refl, tt)))
posted_is (target.Close n) fields = some_exactly (IsAskOf (target.Close n)) _ _ _ (refl, tt)
posted_is (target.StandDown c) fields = some_exactly (IsAskOf (target.StandDown c)) _ _ _ (refl, tt)
posted_is (target.Standby c) fields =
    some_exactly (IsAskOf (target.Standby c)) _ _ _ (some_next (IsAskOf (target.Standby c)) _ _ (λ point. (refl, tt)))
posted_is (target.Duty c) fields =
    some_exactly (IsAskOf (target.Duty c)) _ _ _
    (some_next (IsAskOf (target.Duty c)) _ _ (λ place. some_next (IsAskOf (target.Duty c)) _ _ (λ until. (refl, tt))))
posted_is (target.Off c) fields = some_exactly (IsAskOf (target.Off c)) _ _ _ (refl, tt)
posted_is (target.Lend c) fields =
    some_exactly (IsAskOf (target.Lend c)) _ _ _
    (some_next (IsAskOf (target.Lend c)) _ _ (λ to. some_next (IsAskOf (target.Lend c)) _ _ (λ until. (refl, tt))))
posted_is (target.Withdraw c) fields = some_exactly (IsAskOf (target.Withdraw c)) _ _ _ (refl, tt)
posted_is (target.Decline c) fields = some_exactly (IsAskOf (target.Decline c)) _ _ _ (refl, tt)
posted_is (target.Accept c) fields = some_exactly (IsAskOf (target.Accept c)) _ _ _ (refl, tt)
posted_is (target.Recall c) fields = some_exactly (IsAskOf (target.Recall c)) _ _ _ (refl, tt)
posted_is (target.GiveBack c) fields = some_exactly (IsAskOf (target.GiveBack c)) _ _ _ (refl, tt)
posted_is (target.Clear c n) fields = some_exactly (IsAskOf (target.Clear c n)) _ _ _ (refl, tt)
posted_is (target.SetPoint n) fields =
    some_exactly (IsAskOf (target.SetPoint n)) _ _ _ (some_next (IsAskOf (target.SetPoint n)) _ _
    (λ place. some_next (IsAskOf (target.SetPoint n)) _ _ (λ cover. (refl, tt))))
posted_is target.Report fields =
    some_map (IsAskOf target.Report) (press fields) ask.Report
    (some_more (λ p. IsAskOf target.Report (ask.Report p)) (λ p. 1 ≤ p.number) _ (press_numbered fields)
    (λ p least. (refl, least)))
posted_is other fields = tt

fields_role : (t : Target) (fields : Option Data)
    → IfSome (option_and_then (ask_with_body t) fields) (IsAskOf t)
fields_role t None = tt
fields_role t (Some fields) = posted_is t fields

-- what is asked for without a body
read_is : (t : Target) (given : Request) → ask_without_body t ≡ Some given → IsRequestOf t given
read_is t given asked = grind arith

request_is : (t : Target) (body : List ℕ) → IfSome (request_by t body) (IsRequestOf t)
unfolding request_by
request_is t body = by (ask_without_body t) (read_is t)
  where
    by : (read : Option Request) → ((given : Request) → read ≡ Some given → IsRequestOf t given)
        → IfSome (or_posted read t body) (IsRequestOf t)
    by None is =
        some_map (IsRequestOf t) (option_and_then (ask_with_body t) (fields_of body)) request.Ask
        (fields_role t (fields_of body))
    by (Some given) is = is given refl

-- what is asked is of its target's role
pub asked_is : (t : Target) (body : List ℕ) (a : Ask) → request_by t body ≡ Some (request.Ask a)
    → IsAskOf t a
asked_is t body a asked = rw asked at (request_is t body)

-- what is asked of a day, whose target is a desk's, is a desk's, and no report
days_are_desks : (t : Target) (body : List ℕ) (day : Date) (x : DayAsk)
    → request_by t body ≡ Some (request.OfDay day x) → role_of t ≡ role.Desk
days_are_desks t body day x asked = rw asked at (request_is t body)

pub desk_asks : (x : DayAsk) (from to : ℤ) → (is_desks (between x from to) ≡ true) × IsNumbered (between x from to)
desk_asks of_day.Times from to = (refl, tt)
desk_asks of_day.ClassTimes from to = (refl, tt)
desk_asks (of_day.Closed search) from to = (refl, tt)

-- an ask of a role is for the known terminals of the role
pub addressed : (of : Role) (a : Ask) (who : Who) (r : Room) → role_asks of a ≡ true
    → is_of of who ≡ true → is_for who a r ≡ is_known who r
addressed role.Desk a (Desk d) r asks may = rw asks refl
addressed role.Position a (Position p) r asks may = asks
addressed role.Crew a (Crew c) r asks may = rw asks refl
addressed role.Sender a (Position p) r asks may = (and_parts _ _ asks).1
addressed role.Sender a (Crew c) r asks may = rw (and_parts (is_crews a) _ asks).0 refl
addressed of a who r asks may = cc

-- and so is what is asked of a day
pub day_addressed : (t : Target) (body : List ℕ) (day : Date) (x : DayAsk) (from to : ℤ) (who : Who) (r : Room)
    → request_by t body ≡ Some (request.OfDay day x) → is_of (role_of t) who ≡ true
    → is_for who (between x from to) r ≡ is_known who r
day_addressed t body day x from to who r asked may =
    addressed role.Desk (between x from to) who r (desk_asks x from to).0
    (rw (days_are_desks t body day x asked) at may)
