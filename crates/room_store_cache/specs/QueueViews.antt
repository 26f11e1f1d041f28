-- Which queue views are of a room.
use Rattle.std.specs.Prelude.{All, Bool, List, filter, ℕ, ◌&&◌, ◌==◌, ◌≡◌}
use Rattle.room_types.specs.Codes.{is_active, is_exception}
use Rattle.room_types.specs.declared.tables.Incident.{Incident}
use Rattle.room_types.specs.declared.tables.Report.{Report}
use Rattle.room_model.specs.Room.{Room}
use Rattle.room_store_cache.specs.declared.queue_views.QueueView.{QueueView}

-- it is the division's, and active
abbrev pub is_waiting : ℕ → Incident → Bool
is_waiting d i = i.division == d && is_active i.state

-- it is the division's, and an exception
abbrev pub is_own_exception : ℕ → Report → Bool
is_own_exception d x = x.division == d && is_exception x

-- what waits in the division
pub record IsQueueViewOf (x : QueueView) (room : Room) : Type 0 where
  pub incidents : x.incidents ≡ filter (is_waiting x.division) room.incidents
  pub exceptions : x.exceptions ≡ filter (is_own_exception x.division) room.reports

-- each of them is
abbrev pub AreQueueViewsOf : List QueueView → Room → Type 0
AreQueueViewsOf xs room = All (λ x. IsQueueViewOf x room) xs
