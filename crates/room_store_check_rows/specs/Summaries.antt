-- How much a room has.
use Rattle.std.specs.Prelude.{List, [], cond, filter, is_none, length, map, nat_lt, ℕ, ◌∷◌}
use Rattle.room_place.specs.declared.plans.Area.{Area}
use Rattle.room_types.specs.Codes.{is_active, is_exception}
use Rattle.room_types.specs.declared.fleet.Terminal.{Terminal}
use Rattle.room_types.specs.declared.slices.DivisionRows.{DivisionRows}
use Rattle.room_store_check_rows.specs.declared.summaries.Summary.{Summary}

-- the latest of some moments and this one
abbrev pub latest : ℕ → List ℕ → ℕ
latest m [] = m
latest m (x ∷ xs) = latest (cond (nat_lt m x) x m) xs

-- the newest moment of a call, an order or a report
abbrev pub newest : DivisionRows → ℕ
newest s =
    latest (latest (latest 0 (map (λ c. c.at) s.calls)) (map (λ t. t.ordered) s.turns))
    (map (λ x. x.at) s.reports)

abbrev pub summary_of : List Area → DivisionRows → List Terminal → Summary
summary_of plan s ts = record {
  areas = length plan;
  terminals = length ts;
  divisions = length s.divisions;
  points = length s.points;
  incidents = length s.incidents;
  active_incidents = length (filter (λ i. is_active i.state) s.incidents);
  calls = length s.calls;
  vehicles = length s.vehicles;
  assignments = length s.assignments;
  turns = length s.turns;
  open_turns = length (filter (λ t. is_none t.ended) s.turns);
  loans = length s.loans;
  offers = length s.offers;
  reports = length s.reports;
  uncleared = length (filter is_exception s.reports);
  newest = newest s;
}
