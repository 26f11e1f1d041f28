-- What a desk's queue shows stays in it until its own cause ends; and a desk that looks sees it.
use Rattle.std.specs.Prelude.{Bool, List, None, Ok, Option, Result, Some, [], cond, false, not}
use Rattle.std.specs.Prelude.{true, ℕ, ◌&&◌, ◌+◌, ◌++◌, ◌==◌, ◌||◌, ◌∷◌, ◌≡◌, ◌≢◌, ◌≤◌, ◌⊎◌}
use Rattle.room_place.specs.Choice.{Among}
use Rattle.room_types.specs.Codes.{acts, same_button}
use Rattle.room_types.specs.Keys.{same_callsign}
use Rattle.room_types.specs.Texts.{Callsign}
use Rattle.room_types.specs.declared.answers.Answer.{Answer}
use Rattle.room_types.specs.declared.answers.Answer.TheVariants as answer
use Rattle.room_types.specs.declared.answers.QueueEntry.{QueueEntry}
use Rattle.room_types.specs.declared.asks.Ask.{Ask}
use Rattle.room_types.specs.declared.asks.Ask.TheVariants as ask
use Rattle.room_types.specs.declared.asks.Event.{Event}
use Rattle.room_types.specs.declared.asks.Who.{Who}
use Rattle.room_types.specs.declared.asks.Who.TheVariants.{Crew, Desk, Position}
use Rattle.room_types.specs.declared.codes.Button.{Button}
use Rattle.room_types.specs.declared.codes.Button.TheVariants as button
use Rattle.room_types.specs.declared.refusal_statuses.Refusal.{Refusal}
use Rattle.room_types.specs.declared.tables.Incident.{Incident}
use Rattle.room_laws.specs.Happens.{Happens}
use Rattle.room_model.specs.Decisions.{changes_of}
use Rattle.room_model.specs.Events.{by_desk}
use Rattle.room_model.specs.Queries.{has_post, incident_of, loan_at}
use Rattle.room_model.specs.Queue.{entries}
use Rattle.room_model.specs.Reports.{is_due, is_home}
use Rattle.room_model.specs.Room.{Room}
use Rattle.room_model.specs.Run.{room_run}
use Rattle.room_model.specs.Step.{answer_to, decided, room_after}
use Rattle.room_types.specs.declared.ranks.Rank.{Rank}
use Rattle.room_types.specs.declared.ranks.Rank.TheVariants as rank

-- What needs an eye, rank by rank, by the number and the vehicle that its entry names.
pub data Concern : Type 0 where
  -- 1: an incident that nobody serves
  Unserved : ℕ → Concern
  -- 2: an order for an incident, which its vehicle has not acknowledged
  Unacknowledged : ℕ → Callsign → Concern
  -- 3: a vehicle that is late for the scene of an incident
  LateForScene : ℕ → Callsign → Concern
  -- 4: a report of this number, out of turn
  OutOfTurn : ℕ → Callsign → Concern
  -- 5: a loan that is over, with this other division
  Overdue : ℕ → Callsign → Concern
  -- 6: a vehicle whose shift is over
  ShiftOver : Callsign → Concern
  -- 7: a point that is short of cover
  Uncovered : ℕ → Concern
  -- 8: an offer without answer, with this other division
  Unanswered : ℕ → Callsign → Concern

-- the rank, number and callsign of its entry; since when it lasts may change while it stays
abbrev pub label : Concern → Rank × ℕ × Option Callsign
label (Unserved n) = (rank.Unserved, n, None)
label (Unacknowledged n c) = (rank.Unacknowledged, n, Some c)
label (LateForScene n c) = (rank.LateForScene, n, Some c)
label (OutOfTurn n c) = (rank.OutOfTurn, n, Some c)
label (Overdue n c) = (rank.Overdue, n, Some c)
label (ShiftOver c) = (rank.ShiftOver, 0, Some c)
label (Uncovered n) = (rank.Uncovered, n, None)
label (Unanswered n c) = (rank.Unanswered, n, Some c)

abbrev pub IsOf : Concern → QueueEntry → Type 0
IsOf k x = (x.rank, x.number, x.callsign) ≡ label k

-- the queue has an entry of it
pub record Shows (k : Concern) (queue : List QueueEntry) : Type 0 where
  pub entry : QueueEntry
  pub there : Among entry queue
  pub named : IsOf k entry

-- as the room stands, the queue of division d has it at moment m, be that past or still to come
abbrev pub IsDue : ℕ → Concern → ℕ → Room → Type 0
IsDue d k m r = Shows k (entries d m r)

-- ---- what ends it
-- what the division's own desk asks: it sends a vehicle to the incident, closes it or merges it
-- into another; stands the vehicle down; clears the report; takes the vehicle off duty or gives it
-- back; changes the point, or posts a vehicle there
abbrev pub own_desk_ends : Concern → Ask → Bool
own_desk_ends (Unserved n) (ask.Mobilise m c) = m == n
own_desk_ends (Unserved n) (ask.Close m) = m == n
own_desk_ends (Unserved n) (ask.Merge m into) = m == n
own_desk_ends (Unacknowledged n c) (ask.StandDown e) = same_callsign e c
own_desk_ends (LateForScene n c) (ask.StandDown e) = same_callsign e c
own_desk_ends (OutOfTurn n c) (ask.Clear e m) = same_callsign e c && m == n
own_desk_ends (ShiftOver c) (ask.Off e) = same_callsign e c
own_desk_ends (ShiftOver c) (ask.GiveBack e) = same_callsign e c
own_desk_ends (Uncovered n) (ask.SetPoint m place cover) = m == n
own_desk_ends (Uncovered n) (ask.Standby c post) = has_post n post
own_desk_ends k a = false

-- what any desk asks: the borrower gives the vehicle back; an offer is accepted (so the vehicle has
-- another holder), declined or withdrawn
abbrev pub any_desk_ends : Concern → Ask → Bool
any_desk_ends (Overdue n c) (ask.GiveBack e) = same_callsign e c
any_desk_ends (ShiftOver c) (ask.Accept e) = same_callsign e c
any_desk_ends (Unanswered n c) (ask.Accept e) = same_callsign e c
any_desk_ends (Unanswered n c) (ask.Decline e) = same_callsign e c
any_desk_ends (Unanswered n c) (ask.Withdraw e) = same_callsign e c
any_desk_ends k a = false

-- what a crew's report ends: each but Position shows that the order is read; each but Position and
-- Mobile that the vehicle is no longer on its way; Home gives it back where that is due
abbrev pub report_ends : Concern → Callsign → Button → Bool → Bool
report_ends (Unacknowledged n c) e b back = same_callsign e c && not (same_button b button.Position)
report_ends (LateForScene n c) e b back =
    same_callsign e c && not (same_button b button.Position || same_button b button.Mobile)
report_ends (Overdue n c) e b back = same_callsign e c && (is_home b && back)
report_ends (ShiftOver c) e b back = same_callsign e c && (is_home b && back)
report_ends k e b back = false

-- the crew's vehicle is on a loan that is recalled or past its end
abbrev pub is_back_due : Who → ℕ → Room → Bool
is_back_due (Crew c) at r = is_due at (loan_at c r)
is_back_due who at r = false

-- the report was normal or skipped: a wrong, late or stale one ends nothing
abbrev pub has_acted : Result Answer Refusal → Bool
has_acted (Ok (answer.Reported n o s)) = acts o
has_acted a = false

abbrev pub ends_by : ℕ → Concern → Who → Ask → Bool → Result Answer Refusal → Bool
ends_by d k (Desk h) a back given = (h == d && own_desk_ends k a) || any_desk_ends k a
ends_by d k (Crew c) (ask.Report p) back given =
    report_ends k c p.button back && has_acted given
ends_by d k who a back given = false

-- what this event asks, as it is answered, ends it
abbrev pub is_ended_by : ℕ → Concern → Event → Room → Bool
is_ended_by d k e r = ends_by d k e.who e.ask (is_back_due e.who e.at r) (answer_to e r)

-- The incident has class 0, and with it the longest limit. Calls have classes 1 to 3; of these the
-- lower has the shorter limit, so that another call or a merge makes no vehicle less late.
abbrev pub is_unclassed : Option Incident → Bool
is_unclassed None = false
is_unclassed (Some i) = i.class == 0

abbrev pub loses_class : ℕ → Concern → Room → Bool
loses_class d (LateForScene n c) r = is_unclassed (incident_of d n r)
loses_class d k r = false

-- a step ends it: it is one of these, and it changed the room
abbrev pub Ends : ℕ → Concern → Event → Room → Type 0
Ends d k e r =
    (changes_of (decided e r) ≢ [])
    × (is_ended_by d k e r || loses_class d k (room_after e r) ≡ true)

-- a step of one of the events ends it
abbrev pub IsEnded : ℕ → Concern → List Event → Room → Type 0
IsEnded d k es r = Happens (Ends d k) es r

-- ---- a desk that looks
-- the answer is a queue that shows it
pub record IsShown (k : Concern) (given : Result Answer Refusal) : Type 0 where
  pub queue : List QueueEntry
  pub answer_is : given ≡ Ok (answer.Queue queue)
  pub shown : Shows k queue

abbrev pub is_look : ℕ → Who → Ask → Bool
is_look d (Desk h) ask.Queue = h == d
is_look d who a = false

-- the moments at which the desk of division d asks for its queue
abbrev pub looks : ℕ → List Event → List ℕ
looks d [] = []
looks d (e ∷ es) = cond (is_look d e.who e.ask) (e.at ∷ looks d es) (looks d es)

-- each is at most y after the one before it, from the last one on, until one is not before m
abbrev pub LooksEvery : ℕ → ℕ → ℕ → List ℕ → Type 0
LooksEvery y m last [] = ⊥
LooksEvery y m last (at ∷ rest) = (at ≤ last + y) × ((m ≤ at) ⊎ LooksEvery y m at rest)

-- the desk is shown it at most y after moment m, or an event before has ended it
pub record IsSeen (d : ℕ) (k : Concern) (y m : ℕ) (es : List Event) (r : Room) : Type 0 where
  pub before : List Event
  pub after : List Event
  pub at : ℕ
  pub split : es ≡ before ++ by_desk d ask.Queue at ∷ after
  pub in_time : (m ≤ at) × (at ≤ m + y)
  pub seen : IsShown k (answer_to (by_desk d ask.Queue at) (room_run before r))
      ⊎ IsEnded d k before r
