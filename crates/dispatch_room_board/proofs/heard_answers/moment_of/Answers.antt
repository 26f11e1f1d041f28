use Rattle.dispatch_room_board.proofs.Announced.{date_of, late_date}
use Rattle.dispatch_room_board.proofs.heard_answers.moment_of.Goals as goal

pub returns-in-Ok-try_from : goal.returns-in-Ok-try_from
returns-in-Ok-try_from c =
    date_of _ _ _ _ c.in-Ok.date c.in-Ok.ensures.shown c.unix_secs.ensures.value c.in-Ok-try_from.ensures.1
    c.new.ensures

pub returns-in-Err : goal.returns-in-Err
returns-in-Err c = late_date _ c.in-Ok.date _ c.in-Ok.ensures.shown c.unix_secs.ensures.value c.in-Err.ensures
