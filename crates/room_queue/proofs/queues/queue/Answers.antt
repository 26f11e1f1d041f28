use Rattle.std.proofs.Common.{ap, subst, sym, ◌∙◌}
use Rattle.std.specs.Prelude.{Ok}
use Rattle.room_types.specs.declared.decisions.Decision.{Decision}
use Rattle.room_model.specs.Queue.{IsQueueOf, entries}
use Rattle.room_model.specs.RoomSlices.{room_of}
use Rattle.room_queue.proofs.QueueAnswers.{same_queue, shown}
use Rattle.room_queue.proofs.queues.queue.Goals as goal

pub returns-clause-decides : goal.returns-clause-decides
returns-clause-decides c plan =
    let slice = c.args.slice.now in
    shown slice.division c.args.at (room_of plan slice.rows) c.in_ok-queue.queue (c.in_ok-queue.ensures.entries plan)
    ∙ ap (λ x. Ok x) (sym c.show.ensures)

pub returns-clause-entries : goal.returns-clause-entries
returns-clause-entries c plan queue same =
    let slice = c.args.slice.now in
    subst (IsQueueOf (entries slice.division c.args.at (room_of plan slice.rows)))
    (same_queue c.in_ok-queue.queue queue (sym (ap (λ (x : Decision). x.answer) c.show.ensures) ∙ same))
    (c.in_ok-queue.ensures.entries plan)
