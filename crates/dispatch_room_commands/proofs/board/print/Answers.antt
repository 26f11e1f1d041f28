use Rattle.std.proofs.Common.{Err, Ok, refl}
use Rattle.dispatch_room_exit.specs.declared.exit_status.Failure.TheVariants.{Memory, Network}
use Rattle.dispatch_room_exit.specs.declared.exit_status.Done.TheVariants.{Whole}
use Rattle.dispatch_room_commands.proofs.board.print.Goals as goal

pub returns-in-Ok-write_all : goal.returns-in-Ok-write_all
returns-in-Ok-write_all g c = record {
  between = _;
  found = Ok c.in-Ok.board;
  is = (c.in-Ok.ensures, refl);
  rest = record {
    between = _;
    found = Ok Whole;
    is = (refl, rw c.as_slice.ensures at c.in-Ok-write_all.ensures.bytes);
    rest = (c.end_of.ensures, refl);
  };
}

pub returns-in_default : goal.returns-in_default
returns-in_default g c = record { between = _; found = Err Memory; is = (refl, refl); rest = (refl, refl) }

pub returns : goal.returns
returns g c = record {
  between = _;
  found = Ok c.in-Ok.board;
  is = (c.in-Ok.ensures, refl);
  rest = record { between = _; found = Err Network; is = refl; rest = (refl, refl) };
}
