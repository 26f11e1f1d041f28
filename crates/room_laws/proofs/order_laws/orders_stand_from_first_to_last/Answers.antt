use Rattle.room_laws.proofs.OrderLaws.{given_in, stays_in}
use Rattle.room_laws.proofs.order_laws.orders_stand_from_first_to_last.Goals as goal

pub returns-clause-given : goal.returns-clause-given
returns-clause-given g events room order w known here = given_in events room order w known here

pub returns-clause-stays : goal.returns-clause-stays
returns-clause-stays g events room order w known here = stays_in events room order w known here
