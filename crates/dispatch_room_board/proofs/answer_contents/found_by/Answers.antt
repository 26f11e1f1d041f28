use Rattle.dispatch_room_board.proofs.Answered.{given_or_not, refused_or_not}
use Rattle.dispatch_room_board.proofs.answer_contents.found_by.Goals as goal

pub returns-then-message-ne200 : goal.returns-then-message-ne200
returns-then-message-ne200 g c =
    refused_or_not g.G.FromAnswer.gives c.args.message.now _ _ _ c.unwrap_or.ensures c.if-message-ne200.true c.requires
    c.refusal_in.ensures

pub returns : goal.returns
returns g c =
    given_or_not g.G.FromAnswer.gives c.args.message.now _ _ _ (rw c.zip.ensures at c.ok_or.ensures.value)
    c.if-message-ne200.false c.requires
    c.in_ok-given.ensures
