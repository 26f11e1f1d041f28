-- The machine's answer is the one list that is a queue of the entries.
use Rattle.std.proofs.Common.{ap}
use Rattle.std.specs.Prelude.{List, None, Option, Some, ℕ, ◌≡◌}
use Rattle.room_types.specs.Keys.{entry_cmp, entry_key}
use Rattle.room_types.specs.KeyLemmas.{entries_total}
use Rattle.room_types.specs.declared.answers.Answer.{Answer}
use Rattle.room_types.specs.declared.answers.Answer.TheVariants.{Queue}
use Rattle.room_types.specs.declared.answers.QueueEntry.{QueueEntry}
use Rattle.room_model.proofs.OneList.{one_keyed}
use Rattle.room_model.proofs.QueueLaws.{ordered_queue}
use Rattle.room_model.specs.Decisions.{show}
use Rattle.room_model.specs.Queue.{IsQueueOf, entries, show_queue}
use Rattle.room_model.specs.Room.{Room}

pub shown : (d at : ℕ) (r : Room) (queue : List QueueEntry) → IsQueueOf (entries d at r) queue
    → show_queue d at r ≡ show (Queue queue)
unfolding show_queue
shown d at r queue is =
    let machine = ordered_queue (entries d at r) in
    ap (λ q. show (Queue q)) (one_keyed entry_cmp entry_key entries_total _ queue machine.increasing is.increasing
    (λ e a. is.there e (machine.only e a)) (λ e a. machine.there e (is.only e a)))

-- the entries of an answer
abbrev queue_of : Answer → Option (List QueueEntry)
queue_of (Queue q) = Some q
queue_of _ = None

pub same_queue : (p q : List QueueEntry) → Queue p ≡ Queue q → p ≡ q
same_queue p q e = let same : Some p ≡ Some q = ap queue_of e in cc
