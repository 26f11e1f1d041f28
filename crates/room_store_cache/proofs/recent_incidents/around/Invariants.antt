use Rattle.std.proofs.Common.{take, ◌≡◌}
use Rattle.std.specs.Prelude.{filter}
use Rattle.room_store_cache.proofs.RecentLaws.{may_have}
use Rattle.room_store_cache.proofs.recent_incidents.around.Given as goal

abbrev pub invariant-loop-incident : goal.invariant-loop-incident
invariant-loop-incident l = l.near ≡ filter (may_have l.division l.form l.at) (take l.incident-index l.incidents)
