use Rattle.std.proofs.Common.{sym, ◌∙◌}
use Rattle.room_types.proofs.SliceFacts.{idle_unassigned}
use Rattle.room_alloc.proofs.OrderLaws.{free_idle}
use Rattle.room_alloc.proofs.orders.mobilise.Goals as goal

pub returns-clause-unassigned : goal.returns-clause-unassigned
returns-clause-unassigned c =
    let slice = c.args.slice.now in
    idle_unassigned slice.division slice.rows slice.agrees c.args.callsign.now c.in_ok-vehicle.vehicle.now
    c.in_ok-vehicle.ensures.there (free_idle _ (sym c.is_free.ensures ∙ c.if-not-is_free.false))
