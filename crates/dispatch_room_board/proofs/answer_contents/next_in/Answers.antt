use Rattle.dispatch_room_board.proofs.Answered.{next_given}
use Rattle.dispatch_room_board.proofs.answer_contents.next_in.Goals as goal

pub returns-in_ok-found_in-in-Ok : goal.returns-in_ok-found_in-in-Ok
returns-in_ok-found_in-in-Ok g c =
    next_given g.G.FromAnswer.gives _ _ c.in-Ok.message c.in_ok-found_in-in-Ok.field-0 c.in-Ok.ensures
    c.in_ok-found_in-in-Ok.ensures
