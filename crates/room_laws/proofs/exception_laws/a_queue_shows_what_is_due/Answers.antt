use Rattle.room_laws.proofs.Looks.{is_shown}
use Rattle.room_laws.proofs.exception_laws.a_queue_shows_what_is_due.Goals as goal

pub returns : goal.returns
returns g d at k r due = is_shown d at k r due
