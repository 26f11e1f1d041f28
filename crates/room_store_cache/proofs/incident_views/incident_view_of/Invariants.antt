use Rattle.std.proofs.Common.{take, ◌≡◌}
use Rattle.std.specs.Prelude.{filter, ◌==◌}
use Rattle.room_store_cache.proofs.incident_views.incident_view_of.Given as goal

abbrev pub invariant-loop-turn : goal.invariant-loop-turn
invariant-loop-turn l =
    l.turns ≡ filter (λ t. t.incident == l.number) (take l.turn-index l.rows.turns)
