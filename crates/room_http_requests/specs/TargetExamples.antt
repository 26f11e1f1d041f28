-- Which targets name which paths: each path by a target that fills its pattern, and in examples
-- what targets name, and targets that miss a path narrowly.
use Rattle.std.specs.Prelude.{Bool, true, ◌≡◌, ℕ, ◌+◌, List, [], ◌∷◌, ◌++◌, bytes_eq, codes}
use Rattle.std.specs.Prelude.{if◌then◌else◌, map, option_map, Some, None, Result, Ok, Err}
use Rattle.std.specs.List.{list_any, slice_split}
use Rattle.room_types.specs.declared.asks.Sought.{Sought}
use Rattle.room_types.specs.declared.asks.Sought.TheVariants.{All, Near, Sent}
use Rattle.room_types.specs.declared.refusal_statuses.Allow.TheVariants.{GetHead, Post}
use Rattle.room_types.specs.declared.refusal_statuses.Refusal.{Refusal}
use Rattle.room_types.specs.declared.refusal_statuses.Refusal.TheVariants.{NoPath, WrongMethod}
use Rattle.room_http_time.specs.Dates.{Date}
use Rattle.room_http_requests.specs.Parameters.{is_slash}
use Rattle.room_http_requests.specs.RequestTable.{path_of, pattern_of}
use Rattle.room_http_requests.specs.Router.{routed, target_of}
use Rattle.room_http_requests.specs.declared.request_table.Path.{Path}
use Rattle.room_http_requests.specs.declared.request_table.Target.{Target}
use Rattle.room_http_requests.specs.declared.request_table.Target.TheVariants as target

-- a value for a parameter of a pattern; every other segment is itself
abbrev pub value_for : List ℕ → List ℕ
value_for segment =
    if bytes_eq segment (codes "{n}") then codes "1"
    else if bytes_eq segment (codes "{c}") then codes "A1"
    else if bytes_eq segment (codes "{day}") then codes "2024-02-29"
    else if bytes_eq segment (codes "{place}") then codes "TQ3203480467"
    else if bytes_eq segment (codes "{metres}") then codes "500"
    else segment

-- segments with slashes between them
abbrev pub joined : List (List ℕ) → List ℕ
joined [] = []
joined (segment ∷ []) = segment
joined (segment ∷ more) = segment ++ 47 ∷ joined more

-- a target of a path: its pattern, with a value in the place of each parameter
abbrev pub filled : Path → List ℕ
filled path = joined (map value_for (slice_split is_slash (pattern_of path)))

abbrev pub date : ℕ → ℕ → ℕ → Date
date year month day = record { year = year; month = month; day = day }

-- targets of incidents and calls, with what they name
abbrev pub incident_names : List (List ℕ × Target)
incident_names =
    (codes "/call", target.Call) ∷
    (codes "/incidents", target.Incidents) ∷
    (codes "/incidents/2147483647", target.Incident 2147483647) ∷
    (codes "/incidents/2147483647/propose", target.Propose 2147483647) ∷
    (codes "/incidents/2147483647/mobilise", target.Mobilise 2147483647) ∷
    (codes "/incidents/2147483647/needs", target.Needs 2147483647) ∷
    (codes "/incidents/2147483647/merge", target.Merge 2147483647) ∷
    (codes "/incidents/2147483647/close", target.Close 2147483647) ∷
    (codes "/incidents/1/close", target.Close 1) ∷
    []

-- targets of vehicles
abbrev pub vehicle_names : List (List ℕ × Target)
vehicle_names =
    (codes "/vehicles", target.Vehicles) ∷
    (codes "/moves", target.Moves) ∷
    (codes "/vehicles/A1/standdown", target.StandDown (codes "A1")) ∷
    (codes "/vehicles/A1/standby", target.Standby (codes "A1")) ∷
    (codes "/vehicles/A1/duty", target.Duty (codes "A1")) ∷
    (codes "/vehicles/A1/off", target.Off (codes "A1")) ∷
    (codes "/vehicles/A1/lend", target.Lend (codes "A1")) ∷
    (codes "/vehicles/A1/withdraw", target.Withdraw (codes "A1")) ∷
    (codes "/vehicles/A1/decline", target.Decline (codes "A1")) ∷
    (codes "/vehicles/A1/accept", target.Accept (codes "A1")) ∷
    (codes "/vehicles/A1/recall", target.Recall (codes "A1")) ∷
    (codes "/vehicles/A1/giveback", target.GiveBack (codes "A1")) ∷
    (codes "/vehicles/A1/reports", target.Reports (codes "A1")) ∷
    (codes "/vehicles/0/off", target.Off (codes "0")) ∷
    []

-- a search of 2024-02-29 from a number
abbrev pub closed : Sought → ℕ → Target
closed sought first = target.Closed (date 2024 2 29) (record { sought = sought; first = first })

-- so many metres from a place in the square TQ
abbrev pub near : ℕ → ℕ → ℕ → Sought
near east north metres = Near (record { east = 500000 + east; north = 100000 + north }) metres

abbrev pub by_a1 : Sought
by_a1 = Sent (codes "A1")

-- at most 9 metres from the corner of TQ
abbrev pub at_corner : Sought
at_corner = near 0 0 9

-- targets of searches
abbrev pub search_names : List (List ℕ × Target)
search_names =
    (codes "/closed/2024-02-29/from/1", closed All 1) ∷
    (codes "/closed/2024-02-29/from/2147483647", closed All 2147483647) ∷
    (codes "/closed/2024-02-29/vehicle/A1/from/7", closed by_a1 7) ∷
    (codes "/closed/2024-02-29/vehicle/0/from/2147483647", closed (Sent (codes "0")) 2147483647) ∷
    (codes "/closed/2024-02-29/near/TQ3203480467/500/from/7", closed (near 32034 80467 500) 7) ∷
    (codes "/closed/2024-02-29/near/TQ32038046/99999/from/1", closed (near 32030 80460 99999) 1) ∷
    (codes "/closed/2024-02-29/near/TQ320804/1/from/2", closed (near 32000 80400 1) 2) ∷
    []

-- the other targets
abbrev pub other_names : List (List ℕ × Target)
other_names =
    (codes "/queue", target.Queue) ∷
    (codes "/queue/ZZZZ9999/1/clear", target.Clear (codes "ZZZZ9999") 1) ∷
    (codes "/points", target.Points) ∷
    (codes "/points/99", target.SetPoint 99) ∷
    (codes "/loans", target.Loans) ∷
    (codes "/offers", target.Offers) ∷
    (codes "/times/2024-02-29", target.Times (date 2024 2 29)) ∷
    (codes "/order", target.Order) ∷
    (codes "/job", target.Job) ∷
    (codes "/report", target.Report) ∷
    (codes "/last", target.Last) ∷
    (codes "/points/1", target.SetPoint 1) ∷
    (codes "/times/1970-01-01", target.Times (date 1970 1 1)) ∷
    (codes "/times/2099-12-31", target.Times (date 2099 12 31)) ∷
    (codes "/times/2000-02-29", target.Times (date 2000 2 29)) ∷
    (codes "/times/2024-02-29/classes", target.ClassTimes (date 2024 2 29)) ∷
    (codes "/times/1970-01-01/classes", target.ClassTimes (date 1970 1 1)) ∷
    []

-- targets that miss a path
abbrev pub stray_paths : List (List ℕ)
stray_paths =
    [] ∷
    codes "/" ∷
    codes "call" ∷
    codes "/call/" ∷
    codes "//call" ∷
    codes "/Call" ∷
    codes "/calls" ∷
    codes "/call?x=1" ∷
    codes "/call%20" ∷
    codes "http://room/call" ∷
    codes "*" ∷
    []

-- targets that miss an incident's path
abbrev pub stray_incidents : List (List ℕ)
stray_incidents =
    codes "/incidents/" ∷
    codes "/incidents/1/" ∷
    codes "/incidents/1/calls" ∷
    []

-- targets that miss an incident's number
abbrev pub stray_numbers : List (List ℕ)
stray_numbers =
    codes "/incidents/0/close" ∷
    codes "/incidents/0" ∷
    codes "/incidents/01/close" ∷
    codes "/incidents/+1/close" ∷
    codes "/incidents/2147483648/close" ∷
    []

-- targets that miss a vehicle's path, or its callsign
abbrev pub stray_vehicles : List (List ℕ)
stray_vehicles =
    codes "/vehicles/A1" ∷
    codes "/moves/" ∷
    codes "/vehicles/a1/off" ∷
    codes "/vehicles/A123456789/off" ∷
    codes "/vehicles/A 1/off" ∷
    codes "/vehicles/%41/off" ∷
    []

-- targets that miss a report or a standby point
abbrev pub stray_points : List (List ℕ)
stray_points =
    codes "/queue/A1/clear" ∷
    codes "/queue/A1/0/clear" ∷
    codes "/points/0" ∷
    codes "/points/100" ∷
    codes "/points/01" ∷
    codes "/points/1/" ∷
    []

-- targets that miss a day
abbrev pub stray_days : List (List ℕ)
stray_days =
    codes "/times/2026-02-30" ∷
    codes "/times/2026-02-29" ∷
    codes "/times/1900-02-29" ∷
    codes "/times/1969-12-31" ∷
    codes "/times/2100-01-01" ∷
    codes "/times/2026-00-10" ∷
    codes "/times/2026-13-01" ∷
    codes "/times/2026-04-31" ∷
    codes "/times/2026-01-00" ∷
    codes "/times/2026-1-01" ∷
    codes "/times/2026/01/01" ∷
    codes "/times/20260101" ∷
    codes "/times/+026-01-01" ∷
    codes "/times/2026-02-30/classes" ∷
    codes "/times/2026-01-01/classes/" ∷
    codes "/times/2026-01-01/class" ∷
    codes "/times/classes" ∷
    codes "/closed/2026-02-30/from/1" ∷
    codes "/closed/2026-02-30/vehicle/A1/from/1" ∷
    codes "/closed/2026-02-30/near/TQ3203480467/500/from/1" ∷
    []

-- targets that miss a search, its first number or its callsign
abbrev pub stray_searches : List (List ℕ)
stray_searches =
    codes "/closed" ∷
    codes "/closed/2026-01-01" ∷
    codes "/closed/2026-01-01/from" ∷
    codes "/closed/2026-01-01/from/" ∷
    codes "/closed/2026-01-01/from/0" ∷
    codes "/closed/2026-01-01/from/01" ∷
    codes "/closed/2026-01-01/from/2147483648" ∷
    codes "/closed/2026-01-01/from/1/" ∷
    codes "/closed/2026-01-01/to/1" ∷
    codes "/closed/2026-01-01/vehicle/A1" ∷
    codes "/closed/2026-01-01/vehicle/A1/from/0" ∷
    codes "/closed/2026-01-01/vehicle/a1/from/1" ∷
    codes "/closed/2026-01-01/vehicle/A123456789/from/1" ∷
    codes "/closed/2026-01-01/vehicle//from/1" ∷
    []

-- targets that miss the place of a search, or its metres
abbrev pub stray_metres : List (List ℕ)
stray_metres =
    codes "/closed/2026-01-01/near/TQ3203480467/500" ∷
    codes "/closed/2026-01-01/near/TQ3203480467/from/1" ∷
    codes "/closed/2026-01-01/near/TQ3203480467/500/from/0" ∷
    codes "/closed/2026-01-01/near/TQ3203480467/0/from/1" ∷
    codes "/closed/2026-01-01/near/TQ3203480467/100000/from/1" ∷
    codes "/closed/2026-01-01/near/TQ3203480467/0500/from/1" ∷
    codes "/closed/2026-01-01/near/TQ3203480467/-1/from/1" ∷
    codes "/closed/2026-01-01/near/XX3203480467/500/from/1" ∷
    codes "/closed/2026-01-01/near/tq3203480467/500/from/1" ∷
    codes "/closed/2026-01-01/near/TQ320348046/500/from/1" ∷
    codes "/closed/2026-01-01/near/TQ32034%2080467/500/from/1" ∷
    codes "/closed/2026-01-01/near/TQ/500/from/1" ∷
    codes "/closed/2026-01-01/near/A1/500/from/1" ∷
    []

-- methods and targets, with what they come to where no history is served
abbrev pub requests : List ((List ℕ × List ℕ) × Result Target Refusal)
requests =
    ((codes "GET", codes "/queue"), Ok target.Queue) ∷
    ((codes "HEAD", codes "/queue"), Ok target.Queue) ∷
    ((codes "BREW", codes "/queue"), Err (WrongMethod GetHead)) ∷
    ((codes "POST", codes "/queue"), Err (WrongMethod GetHead)) ∷
    ((codes "get", codes "/queue"), Err (WrongMethod GetHead)) ∷
    ((codes "POST", codes "/call"), Ok target.Call) ∷
    ((codes "GET", codes "/call"), Err (WrongMethod Post)) ∷
    ((codes "HEAD", codes "/call"), Err (WrongMethod Post)) ∷
    ((codes "BREW", codes "/points/100"), Err NoPath) ∷
    ((codes "GET", codes "/incidents/1"), Err NoPath) ∷
    ((codes "GET", codes "/vehicles/A1/reports"), Err NoPath) ∷
    ((codes "POST", codes "/moves"), Err NoPath) ∷
    ((codes "GET", codes "/job"), Err NoPath) ∷
    ((codes "POST", codes "/last"), Err NoPath) ∷
    ((codes "GET", codes "/times/2024-02-29"), Ok (target.Times (date 2024 2 29))) ∷
    ((codes "GET", codes "/times/2024-02-29/classes"), Err NoPath) ∷
    ((codes "POST", codes "/times/2024-02-29/classes"), Err NoPath) ∷
    ((codes "GET", codes "/closed/2024-02-29/from/1"), Err NoPath) ∷
    ((codes "HEAD", codes "/closed/2024-02-29/vehicle/A1/from/1"), Err NoPath) ∷
    ((codes "GET", codes "/closed/2024-02-29/near/TQ3203480467/500/from/1"), Err NoPath) ∷
    []

-- those of history, where it is served
abbrev pub history_requests : List ((List ℕ × List ℕ) × Result Target Refusal)
history_requests =
    ((codes "GET", codes "/incidents/1"), Ok (target.Incident 1)) ∷
    ((codes "GET", codes "/vehicles/A1/reports"), Ok (target.Reports (codes "A1"))) ∷
    ((codes "POST", codes "/vehicles/A1/reports"), Err (WrongMethod GetHead)) ∷
    ((codes "POST", codes "/moves"), Ok target.Moves) ∷
    ((codes "GET", codes "/moves"), Err (WrongMethod Post)) ∷
    ((codes "GET", codes "/job"), Ok target.Job) ∷
    ((codes "POST", codes "/job"), Err (WrongMethod GetHead)) ∷
    ((codes "HEAD", codes "/last"), Ok target.Last) ∷
    ((codes "POST", codes "/last"), Err (WrongMethod GetHead)) ∷
    ((codes "GET", codes "/incidents/0"), Err NoPath) ∷
    ((codes "POST", codes "/incidents/1/close"), Ok (target.Close 1)) ∷
    []

-- those of a day's times by class, where history is served
abbrev pub class_requests : List ((List ℕ × List ℕ) × Result Target Refusal)
class_requests =
    ((codes "GET", codes "/times/2024-02-29/classes"), Ok (target.ClassTimes (date 2024 2 29))) ∷
    ((codes "HEAD", codes "/times/2024-02-29/classes"), Ok (target.ClassTimes (date 2024 2 29))) ∷
    ((codes "POST", codes "/times/2024-02-29/classes"), Err (WrongMethod GetHead)) ∷
    ((codes "POST", codes "/times/2023-02-29/classes"), Err NoPath) ∷
    []

-- those of searches, where history is served
abbrev pub search_requests : List ((List ℕ × List ℕ) × Result Target Refusal)
search_requests =
    ((codes "GET", codes "/closed/2024-02-29/from/7"), Ok (closed All 7)) ∷
    ((codes "HEAD", codes "/closed/2024-02-29/from/7"), Ok (closed All 7)) ∷
    ((codes "POST", codes "/closed/2024-02-29/from/7"), Err (WrongMethod GetHead)) ∷
    ((codes "POST", codes "/closed/2024-02-29/from/0"), Err NoPath) ∷
    ((codes "GET", codes "/closed/2024-02-29/vehicle/A1/from/7"), Ok (closed by_a1 7)) ∷
    ((codes "HEAD", codes "/closed/2024-02-29/vehicle/A1/from/7"), Ok (closed by_a1 7)) ∷
    ((codes "POST", codes "/closed/2024-02-29/vehicle/A1/from/7"), Err (WrongMethod GetHead)) ∷
    ((codes "POST", codes "/closed/2024-02-29/vehicle/a1/from/7"), Err NoPath) ∷
    ((codes "GET", codes "/closed/2024-02-29/near/TQ000000/9/from/7"), Ok (closed at_corner 7)) ∷
    ((codes "HEAD", codes "/closed/2024-02-29/near/TQ000000/9/from/7"), Ok (closed at_corner 7)) ∷
    ((codes "POST", codes "/closed/2024-02-29/near/TQ000000/9/from/7"), Err (WrongMethod GetHead)) ∷
    ((codes "POST", codes "/closed/2024-02-29/near/TQ000000/0/from/7"), Err NoPath) ∷
    []

-- each of the targets names what stands beside it
abbrev pub Name : List (List ℕ × Target) → Type 0
Name examples =
    map (λ example. target_of example.0) examples ≡ map (λ example. Some example.1) examples

-- each of these paths is found by a target that fills its pattern
abbrev pub AreFound : List Path → Type 0
AreFound paths = map (λ path. option_map path_of (target_of (filled path))) paths ≡ map Some paths

-- the path is one of these, by its pattern
abbrev pub IsListed : List Path → Path → Type 0
IsListed paths path = list_any (bytes_eq (pattern_of path)) (map pattern_of paths) ≡ true

-- none of the targets names anything
abbrev pub NameNothing : List (List ℕ) → Type 0
NameNothing targets = map target_of targets ≡ map (λ bytes. None) targets

-- each request comes to what stands beside it, with history or without
abbrev pub AreRouted : Bool → List ((List ℕ × List ℕ) × Result Target Refusal) → Type 0
AreRouted history examples =
    map (λ example. routed history example.0.0 example.0.1) examples
    ≡ map (λ example. example.1) examples
