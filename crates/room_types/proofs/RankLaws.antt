-- The order and the test that ranks have in code are those of their numbers.
use Rattle.std.proofs.Common.{◌≡◌, refl}
use Rattle.std.specs.Ordering.{is_eq}
use Rattle.room_types.specs.Ranks.{rank_cmp}
use Rattle.room_types.specs.declared.ranks.Rank.{Rank}
use Rattle.room_types.specs.declared.ranks.Rank.TheVariants as rank
use Rattle.room_types.specs.contracts.ranks.RankOrd.TheImpl.{cmp-value}
use Rattle.room_types.specs.contracts.ranks.RankPartialEq.TheImpl.{eq-value}

-- what holds of each rank
each : (P : Rank → Type 0) → P rank.Unserved → P rank.Unacknowledged → P rank.LateForScene
    → P rank.OutOfTurn → P rank.Overdue → P rank.ShiftOver → P rank.Uncovered → P rank.Unanswered
    → (r : Rank) → P r
each P a b c d e f g h rank.Unserved = a
each P a b c d e f g h rank.Unacknowledged = b
each P a b c d e f g h rank.LateForScene = c
each P a b c d e f g h rank.OutOfTurn = d
each P a b c d e f g h rank.Overdue = e
each P a b c d e f g h rank.ShiftOver = f
each P a b c d e f g h rank.Uncovered = g
each P a b c d e f g h rank.Unanswered = h

pub same_ranks : (a b : Rank) → cmp-value.it a b ≡ rank_cmp a b
same_ranks rank.Unserved = each _ refl refl refl refl refl refl refl refl
same_ranks rank.Unacknowledged = each _ refl refl refl refl refl refl refl refl
same_ranks rank.LateForScene = each _ refl refl refl refl refl refl refl refl
same_ranks rank.OutOfTurn = each _ refl refl refl refl refl refl refl refl
same_ranks rank.Overdue = each _ refl refl refl refl refl refl refl refl
same_ranks rank.ShiftOver = each _ refl refl refl refl refl refl refl refl
same_ranks rank.Uncovered = each _ refl refl refl refl refl refl refl refl
same_ranks rank.Unanswered = each _ refl refl refl refl refl refl refl refl

pub tied_ranks : (a b : Rank) → eq-value.it a b ≡ is_eq (rank_cmp a b)
tied_ranks rank.Unserved = each _ refl refl refl refl refl refl refl refl
tied_ranks rank.Unacknowledged = each _ refl refl refl refl refl refl refl refl
tied_ranks rank.LateForScene = each _ refl refl refl refl refl refl refl refl
tied_ranks rank.OutOfTurn = each _ refl refl refl refl refl refl refl refl
tied_ranks rank.Overdue = each _ refl refl refl refl refl refl refl refl
tied_ranks rank.ShiftOver = each _ refl refl refl refl refl refl refl refl
tied_ranks rank.Uncovered = each _ refl refl refl refl refl refl refl refl
tied_ranks rank.Unanswered = each _ refl refl refl refl refl refl refl refl
