use Rattle.std.proofs.Common.{Err, Ok, refl}
use Rattle.dispatch_room_exit.specs.declared.exit_status.Failure.TheVariants.{Memory}
use Rattle.dispatch_room_commands.proofs.board.hear_board.Goals as goal

pub returns-in_default : goal.returns-in_default
returns-in_default g c printed = record { between = _; found = Err Memory; is = (refl, refl); rest = (refl, refl) }

pub returns : goal.returns
returns g c printed = record {
  between = record { printed = _; done = _ };
  found = Ok tt;
  is = (tt, refl);
  rest = rw (c.board_time.ensures, c.as_str.ensures.value, c.in-Ok.ensures) at c.hear_answers.ensures printed;
}
