use Rattle.std.proofs.Common.{◌≡◌, ℕ, drop}
use Rattle.std.specs.List.{list_any}
use Rattle.std.specs.Ordering.{is_eq, nat_cmp}
use Rattle.std.specs.Prelude.{◌&&◌, ◌||◌}
use Rattle.room_queue.specs.ServedIncidents.{is_served, serves}
use Rattle.room_queue.proofs.served_incidents.gather.Given as goal

abbrev pub invariant-loop-turn : goal.invariant-loop-turn
invariant-loop-turn l =
    (n : ℕ)
    → is_served l.served n
    || list_any (λ t. is_eq (nat_cmp n t.incident) && serves l.division t) (drop l.turn-index l.turns)
    ≡ list_any (λ t. is_eq (nat_cmp n t.incident) && serves l.division t) l.turns
