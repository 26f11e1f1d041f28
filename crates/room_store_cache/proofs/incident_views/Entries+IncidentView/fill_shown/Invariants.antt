use Rattle.std.proofs.Common.{ℕ}
use Rattle.room_types.specs.declared.asks.Ask.TheVariants.{Queue}
use Rattle.room_model.specs.Room.{IsInOrder, Room}
use Rattle.room_store_cache.specs.HistoryRows.{AreHistoryRows}
use Rattle.room_store_cache.specs.IncidentViews.{AreIncidentViewsOf}
use Rattle.room_store_cache.proofs.incident_views.Entries+IncidentView.fill_shown.Given as goal

abbrev pub invariant-loop-incident : goal.invariant-loop-incident
invariant-loop-incident l = (room : Room) (at : ℕ) → IsInOrder room
    → AreHistoryRows l.division Queue at room l.rows
    → AreIncidentViewsOf l.initial.self.kept.items room → AreIncidentViewsOf l.self.kept.items room
