-- What is known of a room.
use Rattle.std.specs.Prelude.{IsTrue, None, [], false, ◌≡◌}
use Rattle.room_model.specs.Room.{Room}
use Rattle.room_store_cache.specs.QueueViews.{AreQueueViewsOf}
use Rattle.room_store_cache.specs.IncidentViews.{AreIncidentViewsOf}
use Rattle.room_store_cache.specs.RecentIncidents.{AreRecent}
use Rattle.room_store_cache.specs.OpenTurns.{AreTurnsOf}
use Rattle.room_store_cache.specs.ShownLists.{AreShownListsOf}
use Rattle.room_store_cache.specs.declared.cache.Cache.{Cache}
use Rattle.room_store_cache.specs.declared.fleets.Fleet.{Fleet}
use Rattle.room_store_cache.specs.declared.fleets.FleetRows.{FleetRows}

-- these are all rows of the room's tables that don't grow with time
pub record AreRowsOf (rows : FleetRows) (room : Room) : Type 0 where
  pub divisions : rows.divisions ≡ room.divisions
  pub vehicles : rows.vehicles ≡ room.vehicles
  pub assignments : rows.assignments ≡ room.assignments
  pub points : rows.points ≡ room.points
  pub loans : rows.loans ≡ room.loans
  pub offers : rows.offers ≡ room.offers

-- the fleet is known
pub record HasFleetOf (fleet : Fleet) (room : Room) : Type 0 where
  pub rows : AreRowsOf fleet.rows room
  pub turns : AreTurnsOf fleet.turns.kept room

-- it is so, where it is known
abbrev pub IsFleetOf : Fleet → Room → Type 0
IsFleetOf fleet room = IsTrue fleet.is_known → HasFleetOf fleet room

-- nothing is known
pub record KnowsNothing (cache : Cache) : Type 0 where
  pub fleet : cache.fleet.is_known ≡ false
  pub queue_views : cache.queue_views.kept.items ≡ []
  pub incident_views : cache.incident_views.kept.items ≡ []
  pub recent_incidents : cache.recent_incidents.known ≡ None
  pub shown_lists : cache.shown_lists.kept.items ≡ []

-- what is known is so in this room
pub record IsCacheOf (cache : Cache) (room : Room) : Type 0 where
  pub fleet : IsFleetOf cache.fleet room
  pub recent_incidents : AreRecent cache.recent_incidents room
  pub queue_views : AreQueueViewsOf cache.queue_views.kept.items room
  pub incident_views : AreIncidentViewsOf cache.incident_views.kept.items room
  pub shown_lists : AreShownListsOf cache.shown_lists.kept.items room
