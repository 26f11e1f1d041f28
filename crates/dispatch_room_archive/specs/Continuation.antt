-- How a room and the one that was made of it go on, when both get the same events.
use Rattle.std.specs.List.{list_any}
use Rattle.std.specs.Prelude.{Bool, List, None, Ok, Option, Some, [], false, int_lt, is_some, pos}
use Rattle.std.specs.Prelude.{true, ℕ, ◌<◌, ◌&&◌, ◌==◌, ◌||◌, ◌∷◌, ◌≡◌}
use Rattle.room_types.specs.KeyedRows.{keep, put_row}
use Rattle.room_types.specs.Codes.{is_active, is_normal}
use Rattle.room_types.specs.Keys.{numbered_cmp, report_key, same_callsign}
use Rattle.room_types.specs.Texts.{Callsign}
use Rattle.room_types.specs.declared.answers.Answer.TheVariants.{Reported}
use Rattle.room_types.specs.declared.asks.Ask.{Ask}
use Rattle.room_types.specs.declared.asks.Event.{Event}
use Rattle.room_types.specs.declared.asks.Press.{Press}
use Rattle.room_types.specs.declared.asks.Who.{Who}
use Rattle.room_types.specs.declared.asks.Who.TheVariants.{Crew, Desk, Position}
use Rattle.room_types.specs.declared.codes.Outcome.TheVariants.{Late}
use Rattle.room_types.specs.declared.tables.Incident.{Incident}
use Rattle.room_types.specs.declared.tables.Report.{Report}
use Rattle.room_types.specs.declared.tables.Vehicle.{Vehicle}
use Rattle.room_model.specs.Events.{by_crew}
use Rattle.room_model.specs.Queries.{calls_of, incident_of, kept_call, kept_report, last_serial}
use Rattle.room_model.specs.Queries.{vehicle_at}
use Rattle.room_model.specs.Reports.{report_row}
use Rattle.room_model.specs.Room.{Room}
use Rattle.room_model.specs.Step.{answer_to, ask_of, moves_in, room_after}
use Rattle.room_model.specs.WorkingRows.{NamedIncidents, NoIncident, OneIncident, TwoIncidents}
use Rattle.room_model.specs.WorkingRows.{incidents_named}
use Rattle.dispatch_room_archive.specs.Successor.{Behind, without}
use Rattle.room_types.specs.declared.asks.Ask.TheVariants as ask

-- ---- a room and its successor
-- an incident that is not active, and was opened before then
abbrev pub IsOver : ℕ → Option Incident → Type 0
IsOver since None = ⊥
IsOver since (Some i) = (is_active i.state ≡ false) × (i.opened < since)

-- a report that needs nobody's attention, and is not its vehicle's last
abbrev pub IsSettled : Option Vehicle → ℕ → Option Report → Type 0
IsSettled v n None = ⊥
IsSettled None n (Some x) = ⊥
IsSettled (Some v) n (Some x) = (x.cleared || is_normal x.outcome ≡ true) × (n < v.last_report)

-- what stayed behind has no part in what goes on in the room: the incidents are over, the calls are
-- theirs and none is its position's last, the reports are settled
pub record StaysBehind (since : ℕ) (b : Behind) (r : Room) : Type 0 where
  pub incidents : (d n : ℕ) → b.incident d n ≡ true → IsOver since (incident_of d n r)
  pub calls : (p s : ℕ) →
      b.call p s ≡ is_some (keep (λ c. b.incident c.division c.incident) (kept_call p s r))
  pub serials : (p : ℕ) → last_serial p (without b r) ≡ last_serial p r
  pub reports : (c : Callsign) (n : ℕ) → b.report c n ≡ true →
      IsSettled (vehicle_at c r) n (kept_report c n r)

-- the new room has what the old one has, but for what stayed behind
pub record IsSuccessor (since : ℕ) (b : Behind) (old new : Room) : Type 0 where
  pub rows : new ≡ without b old
  pub behind : StaysBehind since b old

-- ---- events that speak of what stayed behind
-- one of the named incidents of division d stayed behind
abbrev pub stayed_behind : Behind → ℕ → NamedIncidents → Bool
stayed_behind b d NoIncident = false
stayed_behind b d (OneIncident n) = b.incident d n
stayed_behind b d (TwoIncidents n m) = b.incident d n || b.incident d m

-- the desk names an incident that stayed behind
abbrev pub names_behind : Behind → ℕ → Ask → Bool
names_behind b d a = stayed_behind b d (incidents_named a)

-- one of its moves does
abbrev pub moves_behind : Behind → ℕ → Ask → Bool
moves_behind b d (ask.Moves ms) =
    list_any (λ m. stayed_behind b d (incidents_named (ask_of m))) (moves_in ms)
moves_behind b d a = false

-- it asks for times or incidents from before that moment, for a vehicle's reports of which one
-- stayed behind, or for the history of an incident into which one that stayed behind was merged
abbrev pub looks_back : ℕ → Behind → ℕ → Room → Ask → Bool
looks_back since b d r (ask.Times from to) = int_lt from (pos since)
looks_back since b d r (ask.ClassTimes from to) = int_lt from (pos since)
looks_back since b d r (ask.Closed from to x) = int_lt from (pos since)
looks_back since b d r (ask.Reports c) =
    list_any (λ x. (x.division == d && same_callsign c x.callsign) && b.report x.callsign x.number)
    r.reports
looks_back since b d r (ask.Incident n) = list_any (λ c. b.incident d c.given) (calls_of d n r)
looks_back since b d r a = false

abbrev pub asks_back : ℕ → Behind → Who → Room → Ask → Bool
asks_back since b (Desk d) r a =
    names_behind b d a || (moves_behind b d a || looks_back since b d r a)
asks_back since b (Position p) r a = false
asks_back since b (Crew c) r a = false

-- a desk asks of what stayed behind, out of the old room
abbrev pub asks_of_the_past : ℕ → Behind → Room → Event → Bool
asks_of_the_past since b old e = asks_back since b e.who old e.ask

abbrev pub sends_again : Behind → Who → Ask → Bool
sends_again b (Position p) (ask.Call f) = b.call p f.serial
sends_again b (Crew c) (ask.Report p) = b.report c p.number
sends_again b who a = false

-- a call or a report that stayed behind is sent again
abbrev pub repeats_the_past : Behind → Event → Bool
repeats_the_past b e = sends_again b e.who e.ask

-- a report whose number stayed behind is late in the new room: it changes nothing but the list of
-- reports, in which it stands
pub record IsTakenLate (c : Callsign) (p : Press) (at : ℕ) (r : Room) : Type 0 where
  pub vehicle : Vehicle
  pub there : vehicle_at c r ≡ Some vehicle
  pub answer :
      answer_to (by_crew c (ask.Report p) at) r ≡ Ok (Reported p.number Late vehicle.status)
  pub rows :
      room_after (by_crew c (ask.Report p) at) r ≡ record r {
        reports = put_row numbered_cmp report_key r.reports
            (report_row vehicle p at Late vehicle.status);
      }

-- ---- lists of events
-- none of them sends what stayed behind again
abbrev pub NoneRepeatsThePast : Behind → List Event → Type 0
NoneRepeatsThePast b [] = Unit {0}
NoneRepeatsThePast b (e ∷ es) = (repeats_the_past b e ≡ false) × NoneRepeatsThePast b es

-- both rooms give the same answer to each of them, but for what a desk asks of the past
abbrev pub AreAnsweredAlike : ℕ → Behind → List Event → Room → Room → Type 0
AreAnsweredAlike since b [] old new = Unit {0}
AreAnsweredAlike since b (e ∷ es) old new =
    (asks_of_the_past since b old e ≡ false → answer_to e new ≡ answer_to e old)
    × AreAnsweredAlike since b es (room_after e old) (room_after e new)
