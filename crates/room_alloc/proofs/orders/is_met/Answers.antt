use Rattle.std.proofs.Common.{ap, refl, ◌≡◌, ◌-◌, ◌∙◌}
use Rattle.room_types.specs.Needs.{need_of}
use Rattle.room_model.specs.Queries.{served}
use Rattle.room_model.specs.RoomSlices.{room_of}
use Rattle.room_alloc.proofs.OrderLaws.{met}
use Rattle.room_alloc.proofs.orders.is_met.Goals as goal

pub returns : goal.returns
returns c = λ n plan same.
    let slice = c.args.slice.now in
    let incident = c.args.incident.now in
    let got : c.get.result
    ≡ need_of incident.needs c.args.kind - served slice.division n c.args.kind (room_of plan slice.rows) =
    c.get.ensures.value
    ∙ (c.lack.ensures slice.division (room_of plan slice.rows) refl c.requires
    ∙ ap (λ m. need_of incident.needs c.args.kind - served slice.division m c.args.kind (room_of plan slice.rows))
    same) in
    met _ _ c.get.result got
