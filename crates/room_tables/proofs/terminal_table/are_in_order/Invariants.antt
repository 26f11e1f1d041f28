use Rattle.std.proofs.Common.{◌≡◌, Less}
use Rattle.std.specs.List.{AllAdjacentBelow}
use Rattle.room_model.specs.FleetRows.{token_cmp, terminal_key}
use Rattle.room_tables.proofs.terminal_table.are_in_order.Given as goal

abbrev pub invariant-loop-at : goal.invariant-loop-at
invariant-loop-at l = AllAdjacentBelow (λ a b. token_cmp (terminal_key a) (terminal_key b) ≡ Less) l.terminals l.at
