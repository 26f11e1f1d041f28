use Rattle.std.proofs.lemmas.List.Filters.{dedup_is}
use Rattle.room_queue.proofs.SortLaws.{alike, sorted_queue}
use Rattle.room_queue.proofs.queues.sort.Goals as goal

pub returns : goal.returns
returns c =
    rw (dedup_is alike _ _ c.dedup.ensures.filtered)
    (sorted_queue _ _ c.sort_unstable.ensures.permutation c.sort_unstable.ensures.sorted)
