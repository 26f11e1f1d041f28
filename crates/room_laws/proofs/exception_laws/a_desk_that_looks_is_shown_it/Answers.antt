use Rattle.room_laws.proofs.Looks.{seen_in_time}
use Rattle.room_laws.proofs.exception_laws.a_desk_that_looks_is_shown_it.Goals as goal

pub returns : goal.returns
returns g d y m last k r es formed known due le looks =
    seen_in_time d y m last k r es formed known due le looks
