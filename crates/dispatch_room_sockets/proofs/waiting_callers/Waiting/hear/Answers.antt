use Rattle.std.proofs.Common.{refl}
use Rattle.dispatch_room_sockets.proofs.RoundLaws.{around_rounds, no_round, rounds_times}
use Rattle.dispatch_room_sockets.proofs.waiting_callers.Waiting.hear.Goals as goal

pub returns-then-is_empty-clause-rounds : goal.returns-then-is_empty-clause-rounds
returns-then-is_empty-clause-rounds g c = around_rounds _ _ _ c.look_around.ensures

pub returns-then-is_empty-clause-times : goal.returns-then-is_empty-clause-times
returns-then-is_empty-clause-times g c = rounds_times _ _ (around_rounds _ _ _ c.look_around.ensures)

pub returns-else-is_empty-clause-rounds : goal.returns-else-is_empty-clause-rounds
returns-else-is_empty-clause-rounds g c = no_round _ _ refl
