-- Which incidents that were shown, with their calls and turns, are of a room.
use Rattle.std.specs.Prelude.{All, Bool, List, filter, is_some, ℕ, ◌&&◌, ◌==◌, ◌≡◌}
use Rattle.room_types.specs.KeyedRows.{row_at}
use Rattle.room_types.specs.Keys.{incident_key, pair_cmp}
use Rattle.room_types.specs.declared.tables.Incident.{Incident}
use Rattle.room_model.specs.Room.{Room}
use Rattle.room_store_cache.specs.declared.shown_lists.ShownList.{ShownList}

-- the division's incident of this number is one of these
abbrev pub is_among : ℕ → List Incident → ℕ → Bool
is_among d incidents n = is_some (row_at pair_cmp incident_key incidents (d, n))

-- it was shown
abbrev pub has : ShownList → ℕ → Bool
has x n = is_among x.division x.incidents n

-- all calls and turns in the room of the division's incidents that were shown
pub record IsShownListOf (x : ShownList) (room : Room) : Type 0 where
  pub calls : x.calls ≡ filter (λ c. c.division == x.division && has x c.incident) room.calls
  pub turns : x.turns ≡ filter (λ t. t.division == x.division && has x t.incident) room.turns

-- each of them is
abbrev pub AreShownListsOf : List ShownList → Room → Type 0
AreShownListsOf xs room = All (λ x. IsShownListOf x room) xs
