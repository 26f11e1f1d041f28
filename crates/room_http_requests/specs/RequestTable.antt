-- The table of requests: each path, its pattern and methods, what its target names, who may ask,
-- and what is asked.
use Rattle.std.specs.Prelude.{ℕ, ℤ, List, codes, Bool, true, false, is_some, Option, Some, None}
use Rattle.std.specs.Prelude.{option_map, option_and_then}
use Rattle.room_place.specs.Plans.{has_division}
use Rattle.room_types.specs.Texts.{callsign_of}
use Rattle.room_types.specs.declared.asks.Ask.{Ask}
use Rattle.room_types.specs.declared.asks.Ask.TheVariants as ask
use Rattle.room_types.specs.declared.asks.Sought.{Sought}
use Rattle.room_types.specs.declared.asks.Sought.TheVariants.{All, Near, Sent}
use Rattle.room_types.specs.declared.asks.Who.{Who}
use Rattle.room_types.specs.declared.asks.Who.TheVariants as who
use Rattle.room_types.specs.declared.refusal_statuses.Allow.{Allow}
use Rattle.room_types.specs.declared.refusal_statuses.Allow.TheVariants.{GetHead, Post}
use Rattle.room_model.specs.Queries.{vehicle_at}
use Rattle.room_model.specs.Room.{Room}
use Rattle.room_http_time.specs.Dates.{day_of}
use Rattle.room_http_requests.specs.Bodies.{ask_with_body}
use Rattle.room_http_requests.specs.BodyFields.{fields_of}
use Rattle.room_http_requests.specs.Parameters.{metres_of, number_of, place_of, point_number_of}
use Rattle.room_http_requests.specs.Parameters.{segment_at}
use Rattle.room_http_requests.specs.declared.request_table.DayAsk.{DayAsk}
use Rattle.room_http_requests.specs.declared.request_table.DayAsk.TheVariants as of_day
use Rattle.room_http_requests.specs.declared.request_table.Path.{Path}
use Rattle.room_http_requests.specs.declared.request_table.Path.TheVariants as path
use Rattle.room_http_requests.specs.declared.request_table.Request.{Request}
use Rattle.room_http_requests.specs.declared.request_table.Request.TheVariants as request
use Rattle.room_http_requests.specs.declared.request_table.Role.{Role}
use Rattle.room_http_requests.specs.declared.request_table.Role.TheVariants.{Desk, Position, Crew}
use Rattle.room_http_requests.specs.declared.request_table.Role.TheVariants.{Sender}
use Rattle.room_http_requests.specs.declared.request_table.Target.{Target}
use Rattle.room_http_requests.specs.declared.request_table.Target.TheVariants as target

-- the pattern of a path
abbrev pub pattern_of : Path → List ℕ
pattern_of path.Call = codes "/call"
pattern_of path.Incidents = codes "/incidents"
pattern_of path.Incident = codes "/incidents/{n}"
pattern_of path.Propose = codes "/incidents/{n}/propose"
pattern_of path.Mobilise = codes "/incidents/{n}/mobilise"
pattern_of path.Needs = codes "/incidents/{n}/needs"
pattern_of path.Merge = codes "/incidents/{n}/merge"
pattern_of path.Close = codes "/incidents/{n}/close"
pattern_of path.Vehicles = codes "/vehicles"
pattern_of path.Moves = codes "/moves"
pattern_of path.StandDown = codes "/vehicles/{c}/standdown"
pattern_of path.Standby = codes "/vehicles/{c}/standby"
pattern_of path.Duty = codes "/vehicles/{c}/duty"
pattern_of path.Off = codes "/vehicles/{c}/off"
pattern_of path.Lend = codes "/vehicles/{c}/lend"
pattern_of path.Withdraw = codes "/vehicles/{c}/withdraw"
pattern_of path.Decline = codes "/vehicles/{c}/decline"
pattern_of path.Accept = codes "/vehicles/{c}/accept"
pattern_of path.Recall = codes "/vehicles/{c}/recall"
pattern_of path.GiveBack = codes "/vehicles/{c}/giveback"
pattern_of path.Reports = codes "/vehicles/{c}/reports"
pattern_of path.Queue = codes "/queue"
pattern_of path.Clear = codes "/queue/{c}/{n}/clear"
pattern_of path.Points = codes "/points"
pattern_of path.SetPoint = codes "/points/{n}"
pattern_of path.Loans = codes "/loans"
pattern_of path.Offers = codes "/offers"
pattern_of path.Times = codes "/times/{day}"
pattern_of path.ClassTimes = codes "/times/{day}/classes"
pattern_of path.Closed = codes "/closed/{day}/from/{n}"
pattern_of path.ClosedBy = codes "/closed/{day}/vehicle/{c}/from/{n}"
pattern_of path.ClosedNear = codes "/closed/{day}/near/{place}/{metres}/from/{n}"
pattern_of path.Order = codes "/order"
pattern_of path.Job = codes "/job"
pattern_of path.Report = codes "/report"
pattern_of path.Last = codes "/last"

-- the methods that a path takes
abbrev pub allow_of : Path → Allow
allow_of path.Incidents = GetHead
allow_of path.Incident = GetHead
allow_of path.Propose = GetHead
allow_of path.Vehicles = GetHead
allow_of path.Reports = GetHead
allow_of path.Queue = GetHead
allow_of path.Points = GetHead
allow_of path.Loans = GetHead
allow_of path.Offers = GetHead
allow_of path.Times = GetHead
allow_of path.ClassTimes = GetHead
allow_of path.Closed = GetHead
allow_of path.ClosedBy = GetHead
allow_of path.ClosedNear = GetHead
allow_of path.Order = GetHead
allow_of path.Job = GetHead
allow_of path.Last = GetHead
allow_of other = Post

-- the path is one of history, which is served only where that is asked for
abbrev pub is_of_history : Path → Bool
is_of_history path.Incident = true
is_of_history path.Moves = true
is_of_history path.Reports = true
is_of_history path.ClassTimes = true
is_of_history path.Closed = true
is_of_history path.ClosedBy = true
is_of_history path.ClosedNear = true
is_of_history path.Job = true
is_of_history path.Last = true
is_of_history other = false

-- the path of a search goes by what is sought
abbrev pub search_path : Sought → Path
search_path All = path.Closed
search_path (Sent callsign) = path.ClosedBy
search_path (Near place metres) = path.ClosedNear

-- the path of a target, without its parameters
abbrev pub path_of : Target → Path
path_of target.Call = path.Call
path_of target.Incidents = path.Incidents
path_of (target.Incident number) = path.Incident
path_of (target.Propose number) = path.Propose
path_of (target.Mobilise number) = path.Mobilise
path_of (target.Needs number) = path.Needs
path_of (target.Merge number) = path.Merge
path_of (target.Close number) = path.Close
path_of target.Vehicles = path.Vehicles
path_of target.Moves = path.Moves
path_of (target.StandDown callsign) = path.StandDown
path_of (target.Standby callsign) = path.Standby
path_of (target.Duty callsign) = path.Duty
path_of (target.Off callsign) = path.Off
path_of (target.Lend callsign) = path.Lend
path_of (target.Withdraw callsign) = path.Withdraw
path_of (target.Decline callsign) = path.Decline
path_of (target.Accept callsign) = path.Accept
path_of (target.Recall callsign) = path.Recall
path_of (target.GiveBack callsign) = path.GiveBack
path_of (target.Reports callsign) = path.Reports
path_of target.Queue = path.Queue
path_of (target.Clear callsign number) = path.Clear
path_of target.Points = path.Points
path_of (target.SetPoint number) = path.SetPoint
path_of target.Loans = path.Loans
path_of target.Offers = path.Offers
path_of (target.Times day) = path.Times
path_of (target.ClassTimes day) = path.ClassTimes
path_of (target.Closed day search) = search_path search.sought
path_of target.Order = path.Order
path_of target.Job = path.Job
path_of target.Report = path.Report
path_of target.Last = path.Last

-- the report that a callsign and a number name
abbrev pub cleared : List ℕ → List ℕ → Option Target
cleared callsign number =
    option_and_then (λ c. option_and_then (λ n. Some (target.Clear c n)) (number_of number))
    (callsign_of callsign)

-- the incidents of a day that are sought, from a number on
abbrev pub searched : List ℕ → Sought → List ℕ → Option Target
searched day sought first =
    option_and_then (λ d. option_map (λ n. target.Closed d (record { sought = sought; first = n }))
    (number_of first)) (day_of day)

-- those that a callsign's vehicle was sent to
abbrev pub searched_by : List ℕ → List ℕ → List ℕ → Option Target
searched_by day callsign first =
    option_and_then (λ c. searched day (Sent c) first) (callsign_of callsign)

-- those at most so many metres from a place
abbrev pub searched_near : List ℕ → List ℕ → List ℕ → List ℕ → Option Target
searched_near day place metres first =
    option_and_then (λ p. option_and_then (λ m. searched day (Near p m) first) (metres_of metres))
    (place_of place)

-- what a target of a path names: its first parameter is its third segment; the number of a report
-- is the fourth, and the parameters of a search are later ones
abbrev pub named_by : Path → List ℕ → Option Target
named_by path.Call text = Some target.Call
named_by path.Incidents text = Some target.Incidents
named_by path.Incident text = option_map target.Incident (number_of (segment_at 2 text))
named_by path.Propose text = option_map target.Propose (number_of (segment_at 2 text))
named_by path.Mobilise text = option_map target.Mobilise (number_of (segment_at 2 text))
named_by path.Needs text = option_map target.Needs (number_of (segment_at 2 text))
named_by path.Merge text = option_map target.Merge (number_of (segment_at 2 text))
named_by path.Close text = option_map target.Close (number_of (segment_at 2 text))
named_by path.Vehicles text = Some target.Vehicles
named_by path.Moves text = Some target.Moves
named_by path.StandDown text = option_map target.StandDown (callsign_of (segment_at 2 text))
named_by path.Standby text = option_map target.Standby (callsign_of (segment_at 2 text))
named_by path.Duty text = option_map target.Duty (callsign_of (segment_at 2 text))
named_by path.Off text = option_map target.Off (callsign_of (segment_at 2 text))
named_by path.Lend text = option_map target.Lend (callsign_of (segment_at 2 text))
named_by path.Withdraw text = option_map target.Withdraw (callsign_of (segment_at 2 text))
named_by path.Decline text = option_map target.Decline (callsign_of (segment_at 2 text))
named_by path.Accept text = option_map target.Accept (callsign_of (segment_at 2 text))
named_by path.Recall text = option_map target.Recall (callsign_of (segment_at 2 text))
named_by path.GiveBack text = option_map target.GiveBack (callsign_of (segment_at 2 text))
named_by path.Reports text = option_map target.Reports (callsign_of (segment_at 2 text))
named_by path.Queue text = Some target.Queue
named_by path.Clear text = cleared (segment_at 2 text) (segment_at 3 text)
named_by path.Points text = Some target.Points
named_by path.SetPoint text = option_map target.SetPoint (point_number_of (segment_at 2 text))
named_by path.Loans text = Some target.Loans
named_by path.Offers text = Some target.Offers
named_by path.Times text = option_map target.Times (day_of (segment_at 2 text))
named_by path.ClassTimes text = option_map target.ClassTimes (day_of (segment_at 2 text))
named_by path.Closed text = searched (segment_at 2 text) All (segment_at 4 text)
named_by path.ClosedBy text =
    searched_by (segment_at 2 text) (segment_at 4 text) (segment_at 6 text)
named_by path.ClosedNear text =
    searched_near (segment_at 2 text) (segment_at 4 text) (segment_at 5 text) (segment_at 7 text)
named_by path.Order text = Some target.Order
named_by path.Job text = Some target.Job
named_by path.Report text = Some target.Report
named_by path.Last text = Some target.Last

-- how many members the body of a target has; one that takes no body has none
abbrev pub members_of : Target → ℕ
members_of target.Call = 5
members_of target.Report = 4
members_of (target.Duty callsign) = 2
members_of (target.Lend callsign) = 2
members_of (target.SetPoint number) = 2
members_of (target.Mobilise number) = 1
members_of (target.Needs number) = 1
members_of (target.Merge number) = 1
members_of target.Moves = 1
members_of (target.Standby callsign) = 1
members_of other = 0

-- calls are a position's, orders, jobs and reports a crew's, the last numbers are of who numbers
-- what it sends, all else is a desk's
abbrev pub role_of : Target → Role
role_of target.Call = Position
role_of target.Order = Crew
role_of target.Job = Crew
role_of target.Report = Crew
role_of target.Last = Sender
role_of other = Desk

-- the terminal has the role
abbrev pub is_of : Role → Who → Bool
is_of Desk (who.Desk division) = true
is_of Position (who.Position number) = true
is_of Crew (who.Crew callsign) = true
is_of Sender (who.Position number) = true
is_of Sender (who.Crew callsign) = true
is_of role other = false

-- the room knows the terminal: its plan has the desk's division, and the crew's vehicle is there
abbrev pub is_known : Who → Room → Bool
is_known (who.Desk division) r = has_division r.plan division
is_known (who.Crew callsign) r = is_some (vehicle_at callsign r)
is_known (who.Position number) r = true

-- what is asked of a day, from its first second to the next day's
abbrev pub between : DayAsk → ℤ → ℤ → Ask
between of_day.Times from to = ask.Times from to
between of_day.ClassTimes from to = ask.ClassTimes from to
between (of_day.Closed search) from to = ask.Closed from to search

-- what a target that takes no body wants
abbrev pub ask_without_body : Target → Option Request
ask_without_body target.Incidents = Some (request.Ask ask.Incidents)
ask_without_body (target.Incident n) = Some (request.Ask (ask.Incident n))
ask_without_body (target.Propose n) = Some (request.Ask (ask.Propose n))
ask_without_body target.Vehicles = Some (request.Ask ask.Vehicles)
ask_without_body (target.Reports c) = Some (request.Ask (ask.Reports c))
ask_without_body target.Queue = Some (request.Ask ask.Queue)
ask_without_body target.Points = Some (request.Ask ask.Points)
ask_without_body target.Loans = Some (request.Ask ask.Loans)
ask_without_body target.Offers = Some (request.Ask ask.Offers)
ask_without_body (target.Times day) = Some (request.OfDay day of_day.Times)
ask_without_body (target.ClassTimes day) = Some (request.OfDay day of_day.ClassTimes)
ask_without_body (target.Closed day search) = Some (request.OfDay day (of_day.Closed search))
ask_without_body target.Order = Some (request.Ask ask.Order)
ask_without_body target.Job = Some (request.Ask ask.Job)
ask_without_body target.Last = Some (request.Ask ask.Last)
ask_without_body other = None

-- what is asked for without a body, or else by the fields of the body
abbrev pub or_posted : Option Request → Target → List ℕ → Option Request
or_posted (Some given) t body = Some given
or_posted None t body = option_map request.Ask (option_and_then (ask_with_body t) (fields_of body))

-- what a request asks for, if its body serves
unfoldable pub request_by : Target → List ℕ → Option Request
request_by t body = or_posted (ask_without_body t) t body
