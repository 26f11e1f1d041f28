use Rattle.room_model.proofs.OwnRequests.{only_accept, only_decline}
use Rattle.room_model.proofs.isolation_laws.offers_are_answered_by_themselves.Goals as goal

pub returns-clause-accept : goal.returns-clause-accept
returns-clause-accept g d c at r s same = only_accept d c at r s same

pub returns-clause-decline : goal.returns-clause-decline
returns-clause-decline g d c at r s same = only_decline d c at r s same
