use Rattle.room_laws.proofs.OrderLaws.{orders_kept}
use Rattle.room_laws.proofs.order_laws.an_event_keeps_orders.Goals as goal

pub returns : goal.returns
returns g event room w = orders_kept event room w
