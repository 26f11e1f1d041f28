-- Parts of a division's working rows, as they stand in the room.
use Rattle.std.specs.Ordering.{is_eq}
use Rattle.std.specs.Prelude.{Bool, List, None, Option, Some, [], false, ℕ, ◌||◌, ◌∷◌, ◌≡◌}
use Rattle.room_types.specs.declared.asks.Ask.{Ask}
use Rattle.room_types.specs.Keys.{numbered_cmp, turn_key}
use Rattle.room_types.specs.Texts.{Callsign}
use Rattle.room_types.specs.declared.tables.Turn.{Turn}
use Rattle.room_model.specs.Room.{Room}
use Rattle.room_model.specs.WorkingRows.{working}
use Rattle.room_store_cache.specs.QueueViews.{AreQueueViewsOf}
use Rattle.room_store_cache.specs.Cache.{AreRowsOf}
use Rattle.room_store_cache.specs.IncidentViews.{AreIncidentViewsOf}
use Rattle.room_store_cache.specs.RecentIncidents.{AreRecent}
use Rattle.room_store_cache.specs.ShownLists.{AreShownListsOf}
use Rattle.room_store_cache.specs.declared.history_rows.HistoryRows.{HistoryRows}
use Rattle.room_store_cache.specs.declared.cache.Cache.{Cache}
use Rattle.room_store_reads.specs.declared.working_rows.FleetParts.{FleetParts}
use Rattle.room_store_reads.specs.declared.working_rows.Work.{Work}

-- the fleet is known, and what else is known is so in the room
pub record AreKnown (known : Cache) (room : Room) : Type 0 where
  pub rows : AreRowsOf known.fleet.rows room
  pub queue_views : AreQueueViewsOf known.queue_views.kept.items room
  pub incident_views : AreIncidentViewsOf known.incident_views.kept.items room
  pub recent_incidents : AreRecent known.recent_incidents room
  pub shown_lists : AreShownListsOf known.shown_lists.kept.items room

-- some part has it
abbrev pub any : {K : Type 0} → (K → Bool) → List K → Bool
any p [] = false
any p (k ∷ ks) = p k || any p ks

-- the turn of the key, if there is one
abbrev pub is_turn : Option (Callsign × ℕ) → Turn → Bool
is_turn None t = false
is_turn (Some k) t = is_eq (numbered_cmp k (turn_key t))

-- there are no rows but the fleet's
pub record IsOfFleet (x : HistoryRows) : Type 0 where
  pub incidents : x.incidents ≡ []
  pub calls : x.calls ≡ []
  pub turns : x.turns ≡ []
  pub reports : x.reports ≡ []

-- the rows of the fleet that a request reads
pub record AreFleetParts (d : ℕ) (a : Ask) (at : ℕ) (room : Room) (x : FleetParts) : Type 0 where
  pub divisions : x.divisions ≡ (working d a at room).divisions
  pub vehicles : x.vehicles ≡ (working d a at room).vehicles
  pub assignments : x.assignments ≡ (working d a at room).assignments
  pub points : x.points ≡ (working d a at room).points
  pub loans : x.loans ≡ (working d a at room).loans
  pub offers : x.offers ≡ (working d a at room).offers

-- the calls and turns of the incidents that a request reads, and the reports that it reads
pub record IsWork (d : ℕ) (a : Ask) (at : ℕ) (room : Room) (x : Work) : Type 0 where
  pub calls : x.calls ≡ (working d a at room).calls
  pub turns : x.turns ≡ (working d a at room).turns
  pub reports : x.reports ≡ (working d a at room).reports
