use Rattle.room_laws.proofs.OrdersReach.{orders_reach}
use Rattle.room_laws.proofs.order_laws.orders_reach_their_crews.Goals as goal

pub returns : goal.returns
returns g room w = orders_reach room w
