-- What the room decides, and the room after it.
use Rattle.std.specs.Prelude.{Bool, Err, List, None, Ok, Option, Result, Some, [], false}
use Rattle.std.specs.Prelude.{filter_map, is_some, nat_le, true, ℕ, ◌&&◌, ◌++◌, ◌==◌, ◌||◌, ◌∷◌}
use Rattle.std.specs.Prelude.{◌≡◌}
use Rattle.room_place.specs.Plans.{has_division}
use Rattle.room_types.specs.declared.answers.Answer.{Answer}
use Rattle.room_types.specs.declared.answers.Answer.TheVariants as answer
use Rattle.room_types.specs.declared.answers.MoveLine.{MoveLine}
use Rattle.room_types.specs.declared.asks.Ask.{Ask}
use Rattle.room_types.specs.declared.asks.Event.{Event}
use Rattle.room_types.specs.declared.asks.Move.{Move}
use Rattle.room_types.specs.declared.asks.Moves.{Moves}
use Rattle.room_types.specs.declared.asks.Who.{Who}
use Rattle.room_types.specs.declared.asks.Who.TheVariants.{Crew, Desk, Position}
use Rattle.room_types.specs.declared.changes.Change.{Change}
use Rattle.room_types.specs.declared.decisions.Decision.{Decision}
use Rattle.room_types.specs.declared.refusal_statuses.Refusal.{Refusal}
use Rattle.room_types.specs.RefusalStatuses.{refusal_number}
use Rattle.room_types.specs.Texts.{Callsign}
use Rattle.room_model.specs.Calls.{new_call, show_last_serial, take_call}
use Rattle.room_model.specs.CrewJobs.{show_job}
use Rattle.room_model.specs.ClosedIncidents.{show_closed}
use Rattle.room_model.specs.DayTimes.{show_class_times, show_times}
use Rattle.room_model.specs.Decisions.{Decides, Verdict, answer_of, changes_of, with_changes}
use Rattle.room_model.specs.Incidents.{change_needs, close, merge, show_incident, show_incidents}
use Rattle.room_model.specs.Loans.{accept, decline, give_back, lend, recall, show_loans}
use Rattle.room_model.specs.Loans.{show_offers, withdraw}
use Rattle.room_model.specs.Points.{set_point, show_points}
use Rattle.room_model.specs.Proposals.{propose}
use Rattle.room_model.specs.Queries.{vehicle_at}
use Rattle.room_model.specs.Queue.{clear, show_queue, show_reports}
use Rattle.room_model.specs.Reports.{show_last, show_order, take_report}
use Rattle.room_model.specs.Room.{Room, apply}
use Rattle.room_model.specs.Vehicles.{duty, mobilise, off, show_vehicles, stand_down, standby}
use Rattle.room_types.specs.declared.asks.Ask.TheVariants as ask
use Rattle.room_types.specs.declared.refusal_statuses.Refusal.TheVariants as refusal

-- what a desk asks that is decided in one step; moves are several steps
abbrev pub single_asks : ℕ → Ask → ℕ → Room → Verdict
single_asks d (ask.Call f) at r = Err refusal.WrongRole
single_asks d ask.Incidents at r = show_incidents d r
single_asks d (ask.Incident n) at r = show_incident d n r
single_asks d (ask.Propose n) at r = propose d n at r
single_asks d (ask.Mobilise n c) at r = mobilise d n c at r
single_asks d (ask.Needs n needs) at r = change_needs d n needs r
single_asks d (ask.Merge n m) at r = merge d n m r
single_asks d (ask.Close n) at r = close d n r
single_asks d ask.Vehicles at r = show_vehicles d r
single_asks d (ask.Moves ms) at r = Err refusal.WrongRole
single_asks d (ask.StandDown c) at r = stand_down d c at r
single_asks d (ask.Standby c p) at r = standby d c p at r
single_asks d (ask.Duty c place until) at r = duty d c place until at r
single_asks d (ask.Off c) at r = off d c r
single_asks d (ask.Lend c to until) at r = lend d c to until at r
single_asks d (ask.Withdraw c) at r = withdraw d c r
single_asks d (ask.Decline c) at r = decline d c r
single_asks d (ask.Accept c) at r = accept d c at r
single_asks d (ask.Recall c) at r = recall d c r
single_asks d (ask.GiveBack c) at r = give_back d c r
single_asks d (ask.Reports c) at r = show_reports d c r
single_asks d ask.Queue at r = show_queue d at r
single_asks d (ask.Clear c n) at r = clear d c n r
single_asks d ask.Points at r = show_points d at r
single_asks d (ask.SetPoint n place cover) at r = set_point d n place cover
single_asks d ask.Loans at r = show_loans d r
single_asks d ask.Offers at r = show_offers d r
single_asks d (ask.Times from to) at r = show_times d from to r
single_asks d (ask.ClassTimes from to) at r = show_class_times d from to r
single_asks d (ask.Closed from to x) at r = show_closed d from to x r
single_asks d ask.Order at r = Err refusal.WrongRole
single_asks d ask.Job at r = Err refusal.WrongRole
single_asks d (ask.Report p) at r = Err refusal.WrongRole
single_asks d ask.Last at r = Err refusal.WrongRole

-- ---- moves: asks of a desk, made one after another, all or none
-- a move asks to send the vehicle to the incident, or to stand it down
abbrev pub ask_for : Callsign → Option ℕ → Ask
ask_for c None = ask.StandDown c
ask_for c (Some n) = ask.Mobilise n c

abbrev pub ask_of : Move → Ask
ask_of m = ask_for m.callsign m.incident

-- those that are there, in their order
abbrev pub moves_in : Moves → List Move
moves_in ms = ms.first ∷ filter_map (λ o. o) ms.others

-- what became of a move, by the answer to what it asks
abbrev pub line_of : Move → Answer → MoveLine
line_of m (answer.Mobilised n c) = record { callsign = c; order = Some n }
line_of m a = record { callsign = m.callsign; order = None }

-- the changes of moves and what became of each, or the first refusal
abbrev pub Course : Type 0
Course = Result (List Change × List MoveLine) Refusal

abbrev pub course_after : List Change → MoveLine → Course → Course
course_after cs l (Ok x) = Ok (cs ++ x.0, l ∷ x.1)
course_after cs l (Err why) = Err why

-- one move, and the rest in the room after it
abbrev pub and_then : Move → Verdict → (List Change → Course) → Course
and_then m (Ok x) rest = course_after x.changes (line_of m x.answer) (rest x.changes)
and_then m (Err why) rest = Err why

abbrev pub course : ℕ → List Move → ℕ → Room → Course
course d [] at r = Ok ([], [])
course d (m ∷ ms) at r =
    and_then m (single_asks d (ask_of m) at r) (λ cs. course d ms at (apply r cs))

abbrev pub verdict_of : Course → Verdict
verdict_of (Ok x) = with_changes (answer.Moved x.1) x.0
verdict_of (Err why) = Err why

abbrev pub desk_asks : ℕ → Ask → ℕ → Room → Verdict
desk_asks d (ask.Moves ms) at r = verdict_of (course d (moves_in ms) at r)
desk_asks d a at r = single_asks d a at r

abbrev pub position_asks : ℕ → Ask → ℕ → Room → Verdict
position_asks p (ask.Call f) at r = take_call (new_call p f at) r
position_asks p ask.Last at r = show_last_serial p r
position_asks p a at r = Err refusal.WrongRole

-- what a crew asks of its vehicle's rows, and of nothing else
abbrev pub crew_asks : Callsign → Ask → ℕ → Room → Verdict
crew_asks c ask.Order at r = show_order c r
crew_asks c (ask.Report p) at r = take_report c p at r
crew_asks c ask.Last at r = show_last c r
crew_asks c a at r = Err refusal.WrongRole

abbrev pub who_asks : Who → Ask → ℕ → Room → Verdict
who_asks (Desk d) a at r = desk_asks d a at r
who_asks (Position p) a at r = position_asks p a at r
-- a job is asked of its incident too
who_asks (Crew c) ask.Job at r = show_job c r
who_asks (Crew c) a at r = crew_asks c a at r

abbrev pub decided : Event → Room → Verdict
decided e r = who_asks e.who e.ask e.at r

abbrev pub room_after : Event → Room → Room
room_after e r = apply r (changes_of (decided e r))

abbrev pub answer_to : Event → Room → Result Answer Refusal
answer_to e r = answer_of (decided e r)

-- ---- addressed events
abbrev pub is_desks : Ask → Bool
is_desks (ask.Call f) = false
is_desks ask.Order = false
is_desks ask.Job = false
is_desks (ask.Report p) = false
is_desks ask.Last = false
is_desks a = true

abbrev pub is_crews : Ask → Bool
is_crews ask.Order = true
is_crews ask.Job = true
is_crews (ask.Report p) = true
is_crews ask.Last = true
is_crews a = false

abbrev pub is_positions : Ask → Bool
is_positions (ask.Call f) = true
is_positions ask.Last = true
is_positions a = false

-- the answer is a list that grows, or calls are moved without bound: only such an ask of a desk may
-- lack memory
abbrev pub may_lack_memory : Ask → Bool
may_lack_memory ask.Incidents = true
may_lack_memory (ask.Incident n) = true
may_lack_memory (ask.Propose n) = true
may_lack_memory (ask.Merge n m) = true
may_lack_memory ask.Vehicles = true
may_lack_memory (ask.Reports c) = true
may_lack_memory ask.Queue = true
may_lack_memory ask.Points = true
may_lack_memory ask.Loans = true
may_lack_memory ask.Offers = true
may_lack_memory (ask.Times from to) = true
may_lack_memory (ask.Closed from to x) = true
may_lack_memory a = false

-- what the code decides of a desk's ask: what the machine does, and exactly that where no list is
-- made
abbrev pub DecidesAsked : Ask → Verdict → Result Decision Refusal → Type 0
DecidesAsked a verdict result =
    Decides verdict result × (may_lack_memory a ≡ false → result ≡ verdict)

-- the ask is one that the role of who asks may ask
abbrev pub is_of_role : Who → Ask → Bool
is_of_role (Desk d) a = is_desks a
is_of_role (Crew c) a = is_crews a
is_of_role (Position p) a = is_positions a

abbrev pub is_for : Who → Ask → Room → Bool
is_for (Desk d) a r = is_desks a && has_division r.plan d
is_for (Crew c) a r = is_crews a && is_some (vehicle_at c r)
is_for (Position p) a r = is_positions a

-- the ask is of the role of who asks, who is known
abbrev pub IsAddressed : Event → Room → Type 0
IsAddressed e r = is_for e.who e.ask r ≡ true

-- ---- questions
-- the ask changes nothing, whoever asks
abbrev pub is_question : Ask → Bool
is_question (ask.Call f) = false
is_question (ask.Mobilise n c) = false
is_question (ask.Needs n needs) = false
is_question (ask.Merge n m) = false
is_question (ask.Close n) = false
is_question (ask.Moves ms) = false
is_question (ask.StandDown c) = false
is_question (ask.Standby c p) = false
is_question (ask.Duty c place until) = false
is_question (ask.Off c) = false
is_question (ask.Lend c to until) = false
is_question (ask.Withdraw c) = false
is_question (ask.Decline c) = false
is_question (ask.Accept c) = false
is_question (ask.Recall c) = false
is_question (ask.GiveBack c) = false
is_question (ask.Clear c n) = false
is_question (ask.SetPoint n place cover) = false
is_question (ask.Report p) = false
is_question a = true

-- ---- refusals
-- the refusals of what a role may ask are those of number 1 to 19, and 22; 20 and 21 are a fleet
-- row's, and what is above isn't the machine's
abbrev pub is_of_the_room : Refusal → Bool
is_of_the_room why = nat_le (refusal_number why) 19 || refusal_number why == 22
