use Rattle.std.proofs.Common.{inl, inr}
use Rattle.std.proofs.lemmas.Result.{IfErr-weaker, IfOk-weaker}
use Rattle.dispatch_room_lists.proofs.LegLemmas.{any_lost_list, any_replayed}
use Rattle.dispatch_room_lists.proofs.replayed_lists.replay_from.Goals as goal

pub returns-clause-replayed : goal.returns-clause-replayed
returns-clause-replayed g c =
    IfOk-weaker c.replay_list.result _ _ (λ worked is. (_, _, any_replayed _ _ _ _ _ _ _ _ _ _ _ is))
    (rw c.new-list.ensures.left at c.replay_list.ensures.replayed)

pub returns-clause-lost : goal.returns-clause-lost
returns-clause-lost g c =
    IfErr-weaker c.replay_list.result _ _
    (λ fault is. elim is [
      | inl unopened ↦ inl unopened
      | inr lost ↦ inr (any_lost_list _ _ _ _ _ _ _ _ lost)
    ])
    (rw c.new-list.ensures.left at c.replay_list.ensures.lost)
