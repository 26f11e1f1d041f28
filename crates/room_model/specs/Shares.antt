-- The rows that one division owns, the rows of one vehicle, and those that decide what is asked.
use Rattle.std.specs.Prelude.{List, Some, [], filter, is_none, ℕ, ◌&&◌, ◌∷◌, ◌≡◌}
use Rattle.room_place.specs.Plans.{division_of}
use Rattle.room_types.specs.Keys.{owns_assignment, owns_call, owns_division, owns_incident}
use Rattle.room_types.specs.Keys.{owns_loan, owns_offer, owns_point, owns_report, owns_turn}
use Rattle.room_types.specs.Keys.{owns_vehicle, same_callsign}
use Rattle.room_types.specs.Texts.{Callsign}
use Rattle.room_types.specs.declared.asks.Ask.{Ask}
use Rattle.room_types.specs.declared.asks.Ask.TheVariants.{Call, Job, Last}
use Rattle.room_types.specs.declared.asks.CallForm.{CallForm}
use Rattle.room_types.specs.declared.asks.Who.{Who}
use Rattle.room_types.specs.declared.asks.Who.TheVariants.{Crew, Desk, Position}
use Rattle.room_types.specs.declared.changes.Change.{Change}
use Rattle.room_types.specs.declared.changes.Change.TheVariants.{Settle}
use Rattle.room_types.specs.declared.tables.Assignment.{Assignment}
use Rattle.room_model.specs.Queries.{assignment_at, calls_of, incident_of, kept_call, last_serial}
use Rattle.room_model.specs.Room.{Room}

-- the same plan, and the rows that division d owns
abbrev pub own : ℕ → Room → Room
own d r = record {
  plan = r.plan;
  divisions = filter (owns_division d) r.divisions;
  incidents = filter (owns_incident d) r.incidents;
  calls = filter (owns_call d) r.calls;
  vehicles = filter (owns_vehicle d) r.vehicles;
  turns = filter (owns_turn d) r.turns;
  assignments = filter (owns_assignment d) r.assignments;
  points = filter (owns_point d) r.points;
  loans = filter (owns_loan d) r.loans;
  offers = filter (owns_offer d) r.offers;
  reports = filter (owns_report d) r.reports;
}

-- the vehicle, its assignment, open turn, loan, offer and reports, whichever division owns them
abbrev pub mine : Callsign → Room → Room
mine c r = record {
  plan = [];
  divisions = [];
  incidents = [];
  calls = [];
  vehicles = filter (λ x. same_callsign x.callsign c) r.vehicles;
  turns = filter (λ x. same_callsign x.callsign c && is_none x.ended) r.turns;
  assignments = filter (λ x. same_callsign x.callsign c) r.assignments;
  points = [];
  loans = filter (λ x. same_callsign x.callsign c) r.loans;
  offers = filter (λ x. same_callsign x.callsign c) r.offers;
  reports = filter (λ x. same_callsign x.callsign c) r.reports;
}

-- two rooms agree on what decides a call: its position's call of this serial, the plan, and the
-- rows of the division that it is placed in
pub record AgreeOnCall (p : ℕ) (f : CallForm) (r s : Room) : Type 0 where
  pub kept : kept_call p f.serial r ≡ kept_call p f.serial s
  pub plan : r.plan ≡ s.plan
  pub share : (d : ℕ) → division_of r.plan f.place ≡ Some d → own d r ≡ own d s

-- two rooms agree on what decides a crew's job: its vehicle's rows, and of the incident that it has
-- an order for the row and the calls
pub record AgreeOnJob (c : Callsign) (r s : Room) : Type 0 where
  pub vehicle : mine c r ≡ mine c s
  pub incident : (a : Assignment) → assignment_at c r ≡ Some a
      → incident_of a.division a.incident r ≡ incident_of a.division a.incident s
  pub calls : (a : Assignment) → assignment_at c r ≡ Some a
      → calls_of a.division a.incident r ≡ calls_of a.division a.incident s

-- two rooms agree on what decides an ask: the division's rows for its desk, the vehicle's for its
-- crew, and those of its incident where it asks for its job, the greatest serial for a position
-- that asks for it; what else a position asks is refused in every room
abbrev pub AgreeOn : Who → Ask → Room → Room → Type 0
AgreeOn (Desk d) a r s = own d r ≡ own d s
AgreeOn (Crew c) Job r s = AgreeOnJob c r s
AgreeOn (Crew c) a r s = mine c r ≡ mine c s
AgreeOn (Position p) (Call f) r s = AgreeOnCall p f r s
AgreeOn (Position p) Last r s = last_serial p r ≡ last_serial p s
AgreeOn (Position p) a r s = Unit {0}

-- a row to put or to drop, which a share can follow by itself
abbrev pub IsPlain : Change → Type 0
IsPlain (Settle c d) = ⊥
IsPlain x = Unit {0}

abbrev pub ArePlain : List Change → Type 0
ArePlain [] = Unit {0}
ArePlain (c ∷ cs) = IsPlain c × ArePlain cs
