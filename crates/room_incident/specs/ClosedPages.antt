-- What the pages of a day's closed incidents are made of, told without a room.
use Rattle.std.specs.Prelude.{Bool, List, filter, nat_le, not, ℕ, ℤ, ◌&&◌, ◌==◌}
use Rattle.room_types.specs.Codes.{is_active}
use Rattle.room_types.specs.Keys.{same_callsign}
use Rattle.room_types.specs.Texts.{Callsign}
use Rattle.room_types.specs.declared.asks.Search.{Search}
use Rattle.room_types.specs.declared.tables.Incident.{Incident}
use Rattle.room_types.specs.declared.tables.Turn.{Turn}
use Rattle.room_model.specs.ClosedIncidents.{is_sought}
use Rattle.room_model.specs.Queries.{is_opened_within}

-- closed or merged, and opened in the day
abbrev pub is_over_between : ℕ → ℤ → ℤ → Incident → Bool
is_over_between d from to i =
    i.division == d && (not (is_active i.state) && is_opened_within from to i)

abbrev pub is_turn_of : ℕ → Callsign → Turn → Bool
is_turn_of d c t = t.division == d && same_callsign c t.callsign

-- over, and of the pages from the first on
abbrev pub is_on_pages : ℕ → List Turn → ℤ → ℤ → Search → Incident → Bool
is_on_pages d turns from to x i =
    is_over_between d from to i
    && (nat_le x.first i.number && is_sought x.sought (λ c. filter (is_turn_of d c) turns) i)
