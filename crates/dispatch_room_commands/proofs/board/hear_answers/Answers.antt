use Rattle.std.proofs.Common.{Ok, refl}
use Rattle.dispatch_room_commands.proofs.board.hear_answers.Goals as goal

pub returns-in-Ok : goal.returns-in-Ok
returns-in-Ok g c printed = record {
  between = record { printed = _; done = _ };
  found = Ok tt;
  is = (tt, refl, c.call-sides.ensures.done, refl);
  rest = (c.call-sides.ensures.heard _ _ _ c.in-Ok.ensures, refl);
}

pub returns-in-Err : goal.returns-in-Err
returns-in-Err g c printed = record {
  between = record { printed = _; done = _ };
  found = Ok tt;
  is = (tt, refl, c.call-sides.ensures.done, refl);
  rest = (refl, refl);
}
