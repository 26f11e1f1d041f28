-- Which incident views are of a room.
use Rattle.std.specs.Prelude.{All, List, filter, ◌&&◌, ◌==◌, ◌≡◌}
use Rattle.room_types.specs.KeyedRows.{row_at}
use Rattle.room_types.specs.Keys.{incident_key, pair_cmp}
use Rattle.room_model.specs.Room.{Room}
use Rattle.room_store_cache.specs.declared.incident_views.IncidentView.{IncidentView}

-- what the division has in the room under this number: the incident, and the turns
pub record IsIncidentViewOf (x : IncidentView) (room : Room) : Type 0 where
  pub incident : x.incident
      ≡ row_at pair_cmp incident_key room.incidents (x.division, x.number)
  pub turns : x.turns
      ≡ filter (λ t. t.incident == x.number && t.division == x.division) room.turns

-- each of them is
abbrev pub AreIncidentViewsOf : List IncidentView → Room → Type 0
AreIncidentViewsOf xs room = All (λ x. IsIncidentViewOf x room) xs
