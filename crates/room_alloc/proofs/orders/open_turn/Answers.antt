use Rattle.std.proofs.Common.{sym, ◌∙◌}
use Rattle.room_model.proofs.SliceLookUps.{open_turn_is}
use Rattle.room_alloc.proofs.orders.open_turn.Goals as goal

pub returns : goal.returns
returns c = λ plan.
    let slice = c.args.slice.now in
    c.open_turn.ensures
    ∙ sym (open_turn_is slice.division plan slice.rows slice.agrees c.args.callsign.now c.args.vehicle.now c.requires
    c.as_slice-in_order.ensures.keyed)
