use Rattle.std.proofs.Common.{refl}
use Rattle.room_store_check_tables.proofs.judged_histories.judge.Goals as goal

pub returns-in-Ok-clause-judged : goal.returns-in-Ok-clause-judged
returns-in-Ok-clause-judged g c clean =
    let taken = c.in-Ok.ensures.taken clean in
    let judged = rw (taken.2.0, taken.2.1) at taken.2.2 in
    (taken.0, taken.1, judged.agree refl, judged.keep)
