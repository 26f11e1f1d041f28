use Rattle.room_http_requests.specs.RequestTable.{role_of}
use Rattle.room_http_requests.proofs.RoleLaws.{addressed, asked_is, day_addressed}
use Rattle.room_http_requests.proofs.laws.requests_are_addressed.Goals as goal

pub returns-clause-asks : goal.returns-clause-asks
returns-clause-asks c = λ t body a who r asked may. addressed (role_of t) a who r (asked_is t body a asked).0 may

pub returns-clause-of_days : goal.returns-clause-of_days
returns-clause-of_days c = λ t body day x from to who r asked may. day_addressed t body day x from to who r asked may

pub returns-clause-numbered : goal.returns-clause-numbered
returns-clause-numbered c = λ t body a asked. (asked_is t body a asked).1
