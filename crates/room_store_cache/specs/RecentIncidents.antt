-- Which incidents are known.
use Rattle.std.specs.Prelude.{Bool, IfSome, filter, int_le, pos, ℕ, ◌≡◌}
use Rattle.room_types.specs.declared.tables.Incident.{Incident}
use Rattle.room_model.specs.Room.{Room}
use Rattle.room_store_cache.specs.declared.recent_incidents.RecentIncidents.{RecentIncidents}

-- it was opened from this second on
abbrev pub opened_since : ℕ → Incident → Bool
opened_since from i = int_le (pos from) (pos i.opened)

-- where a half hour is known, its incidents are those of the room that were opened since it began
abbrev pub AreRecent : RecentIncidents → Room → Type 0
AreRecent recent_incidents room = IfSome recent_incidents.known (λ x.
    x.incidents ≡ filter (opened_since x.from) room.incidents)
