use Rattle.std.proofs.Common.{arith, refl}
use Rattle.dispatch_room_board.proofs.Answered.{message_read, never_long}
use Rattle.dispatch_room_board.proofs.heard_answers.first_message.Goals as goal

pub returns-in-None : goal.returns-in-None
returns-in-None c =
    let is = rw c.in-Ok-Complete.field-0-is at c.in-Ok-Complete.ensures.complete in
    never_long _ _ is.0 _ is.1.reads is.1.fields (rw c.in-None.is at c.length_in.ensures)

pub returns : goal.returns
returns c =
    message_read _ _ _ _ _ _ (rw c.in-Ok-Complete.field-0-is at c.in-Ok-Complete.ensures.complete) (omega arith) refl
    c.in-Some-split_at_checked.ensures.cases (rw c.in-Some.is at c.length_in.ensures) c.moment_in-moment.ensures
