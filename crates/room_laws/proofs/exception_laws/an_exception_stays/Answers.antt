use Rattle.room_laws.proofs.Stays.{due_still}
use Rattle.room_laws.proofs.exception_laws.an_exception_stays.Goals as goal

pub returns : goal.returns
returns g d m at k r es formed known le due = due_still d m at k es r formed known le due
