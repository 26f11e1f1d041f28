use Rattle.std.proofs.Common.{ap, ◌∙◌}
use Rattle.room_queue.specs.QueueEntries.{with_held, with_sent}
use Rattle.room_queue.proofs.SeenLaws.{seen_all}
use Rattle.room_queue.proofs.queues.seen.Goals as goal

pub returns : goal.returns
returns c plan =
    let d = c.args.slice.now.division in
    let s = c.args.slice.now.rows in
    let at = c.args.at in
    let served = c.args.served.now in
    c.in_ok-push_held.ensures
    ∙ (ap (with_held d at s) (c.in_ok-push_sent.ensures ∙ ap (with_sent d at served s) c.new-seen.ensures.items)
    ∙ seen_all d at plan s c.args.slice.now.agrees c.as_slice-vehicles.ensures.keyed c.as_slice-points.ensures.keyed
    c.as_slice-turns.ensures.keyed served c.requires)
