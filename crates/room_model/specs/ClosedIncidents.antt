-- Incidents of a day that are over: found by vehicle or by place, a page at a time.
use Rattle.std.specs.List.{list_any}
use Rattle.std.specs.Prelude.{Bool, List, None, Option, Some, [], false, filter, length, map}
use Rattle.std.specs.Prelude.{nat_le, option_map, slice_get, take, true, ℕ, ℤ, ◌&&◌, ◌++◌, ◌==◌}
use Rattle.std.specs.Prelude.{◌≡◌}
use Rattle.room_place.specs.Places.{distance}
use Rattle.room_place.specs.declared.places.Place.{Place}
use Rattle.room_types.specs.declared.answers.Answer.TheVariants as answer
use Rattle.room_types.specs.declared.answers.ClassLine.{ClassLine}
use Rattle.room_types.specs.declared.answers.ClosedPage.{ClosedPage}
use Rattle.room_types.specs.declared.answers.Times.{Times}
use Rattle.room_types.specs.declared.asks.Search.{Search}
use Rattle.room_types.specs.declared.asks.Sought.{Sought}
use Rattle.room_types.specs.declared.asks.Sought.TheVariants.{All, Near, Sent}
use Rattle.room_types.specs.declared.tables.Incident.{Incident}
use Rattle.room_types.specs.declared.tables.Turn.{Turn}
use Rattle.room_types.specs.Codes.{is_active}
use Rattle.room_types.specs.Keys.{same_callsign}
use Rattle.room_types.specs.Texts.{Callsign}
use Rattle.room_model.specs.Decisions.{Verdict, show}
use Rattle.room_model.specs.DayTimes.{of_class, times_line, times_of}
use Rattle.room_model.specs.Queries.{incident_of, incidents_opened, incidents_over}
use Rattle.room_model.specs.Queries.{is_opened_within, turns_by, turns_of}
use Rattle.room_model.specs.Room.{Room}

-- the incident is sought: every one is, or one that a vehicle with these turns was sent to, or one
-- that is at most so many metres away
abbrev pub is_sought : Sought → (Callsign → List Turn) → Incident → Bool
is_sought All turns i = true
is_sought (Sent c) turns i = list_any (λ t. t.incident == i.number) (turns c)
is_sought (Near p metres) turns i = nat_le (distance i.place p) metres

-- the incidents that were opened in those seconds, are over and are sought, in number order
unfoldable pub incidents_found : ℕ → ℤ → ℤ → Sought → Room → List Incident
incidents_found d from to x r =
    filter (is_sought x (λ c. turns_by d c r)) (incidents_over d from to r)

-- those from a number on
abbrev pub from_number : ℕ → List Incident → List Incident
from_number n is = filter (λ i. nat_le n i.number) is

-- the first hundred, and the number of the one that follows them
abbrev pub page_of : List Incident → ClosedPage
page_of is = record {
  incidents = take 100 is;
  next = option_map (λ i. i.number) (slice_get is 100);
}

unfoldable pub show_closed : ℕ → ℤ → ℤ → Search → Room → Verdict
show_closed d from to x r =
    show (answer.Closed (page_of (from_number x.first (incidents_found d from to x.sought r))))

-- ---- what holds of them
-- what follows a page: all from its next number on, if there is one
abbrev pub rest_from : Option ℕ → List Incident → List Incident
rest_from None is = []
rest_from (Some n) is = from_number n is

-- a page from a number on and what follows it are all from that number on
abbrev pub LosesNothing : ClosedPage → ℕ → List Incident → Type 0
LosesNothing p n is = p.incidents ++ rest_from p.next is ≡ from_number n is

-- What a search says of an incident: it is the room's, over and opened then. Where a vehicle was
-- named, the incident's history shows that it was sent there.
pub record IsFound (d : ℕ) (from to : ℤ) (x : Sought) (i : Incident) (r : Room) : Type 0 where
  pub there : incident_of d i.number r ≡ Some i
  pub over : is_active i.state ≡ false
  pub opened : is_opened_within from to i ≡ true
  pub sent : (c : Callsign) → x ≡ Sent c → list_any
      (λ t. same_callsign c t.callsign && t.incident == i.number)
      (turns_of d i.number r) ≡ true
  pub near : (p : Place) (m : ℕ) → x ≡ Near p m → nat_le (distance i.place p) m ≡ true

-- the room with the incidents of one class only
abbrev pub only_class : ℕ → Room → Room
only_class c r = record r { incidents = of_class c r.incidents }

-- what times count, as the line of a class
abbrev pub counted : ℕ → Times → ClassLine
counted c t = record {
  class = c;
  opened = length t.lines;
  activated = t.activated;
  within = t.within;
}

-- the times of a day in that room
abbrev pub times_of_class : ℕ → ℕ → ℤ → ℤ → Room → Times
times_of_class c d from to r =
    times_of from to (map times_line (incidents_opened d from to (only_class c r)))
