-- Events: who sends them, which reach a room, and what holds of those of a run.
use Rattle.std.specs.Prelude.{Bool, List, None, Option, Result, Some, [], false, is_err, not, true}
use Rattle.std.specs.Prelude.{ℕ, ◌||◌, ◌∷◌, ◌≡◌, ◌≤◌}
use Rattle.room_types.specs.Texts.{Callsign}
use Rattle.room_types.specs.declared.answers.Answer.{Answer}
use Rattle.room_types.specs.declared.asks.Ask.{Ask}
use Rattle.room_types.specs.declared.asks.Event.{Event}
use Rattle.room_types.specs.declared.asks.Who.TheVariants.{Crew, Desk, Position}
use Rattle.room_types.specs.declared.refusal_statuses.Refusal.{Refusal}
use Rattle.room_model.specs.Crossing.{Accepted, Arrive, Asked, CallIn, Crossing, Declined, Left}
use Rattle.room_model.specs.Crossing.{OfferIn, Recalled, ReportIn, Withdrawn, is_local}
use Rattle.room_model.specs.Room.{Room}
use Rattle.room_model.specs.Step.{IsAddressed, answer_to, room_after}
use Rattle.room_types.specs.declared.asks.Ask.TheVariants as ask

-- an ask of a division's desk
abbrev pub by_desk : ℕ → Ask → ℕ → Event
by_desk d a at = record { who = Desk d; ask = a; at = at }

-- an ask of a vehicle's crew
abbrev pub by_crew : Callsign → Ask → ℕ → Event
by_crew c a at = record { who = Crew c; ask = a; at = at }

-- an ask of a call taker's position
abbrev pub by_position : ℕ → Ask → ℕ → Event
by_position p a at = record { who = Position p; ask = a; at = at }

-- a report's number is from 1
abbrev pub IsNumbered : Ask → Type 0
IsNumbered (ask.Report p) = 1 ≤ p.number
IsNumbered a = Unit {0}

-- each event is of a role that may ask it, and of a desk, position or crew that the room knows
abbrev pub AreAddressed : List Event → Room → Type 0
AreAddressed [] r = Unit {0}
AreAddressed (e ∷ es) r = IsAddressed e r × IsNumbered e.ask × AreAddressed es r

-- it doesn't offer a vehicle, answer an offer, recall or give back, or that is refused; and no loan
-- changes
abbrev pub IsLocal : Event → Room → Type 0
IsLocal e r =
    (is_local e.ask || is_err (answer_to e r) ≡ true) × ((room_after e r).loans ≡ r.loans)

abbrev pub AreLocal : List Event → Room → Type 0
AreLocal [] r = Unit {0}
AreLocal (e ∷ es) r = IsLocal e r × AreLocal es (room_after e r)

-- nothing is lent, and nothing is offered
abbrev pub IsUnlent : Room → Type 0
IsUnlent r = (r.loans ≡ []) × (r.offers ≡ [])

-- it asks to offer a vehicle to another division
abbrev pub is_lend : Ask → Bool
is_lend (ask.Lend c to until) = true
is_lend a = false

-- nobody offers a vehicle, but so that it is refused
abbrev pub NobodyLends : List Event → Room → Type 0
NobodyLends [] r = Unit {0}
NobodyLends (e ∷ es) r =
    (not (is_lend e.ask) || is_err (answer_to e r) ≡ true) × NobodyLends es (room_after e r)

-- what a division is handed, without the events that hand it nothing
abbrev pub received : List (Option Crossing) → List Crossing
received [] = []
received (None ∷ xs) = received xs
received (Some x ∷ xs) = x ∷ received xs

-- a request of its own desk, a call, a report, or nothing
abbrev pub is_everyday : Option Crossing → Bool
is_everyday None = true
is_everyday (Some (Asked e)) = true
is_everyday (Some (CallIn e)) = true
is_everyday (Some (ReportIn e)) = true
is_everyday (Some (OfferIn o)) = false
is_everyday (Some (Withdrawn c)) = false
is_everyday (Some (Declined c)) = false
is_everyday (Some (Left l)) = false
is_everyday (Some (Accepted e v)) = false
is_everyday (Some (Arrive v)) = false
is_everyday (Some (Recalled c)) = false

-- the event leaves the room as it is, and gets this answer
abbrev pub OnlyAnswers : Event → Room → Result Answer Refusal → Type 0
OnlyAnswers e r answer = (room_after e r ≡ r) × (answer_to e r ≡ answer)
