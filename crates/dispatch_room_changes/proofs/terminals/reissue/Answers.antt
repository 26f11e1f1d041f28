use Rattle.std.proofs.Common.{Err, Ok, refl}
use Rattle.dispatch_room_exit.specs.declared.exit_status.Failure.TheVariants.{Memory}
use Rattle.dispatch_room_changes.proofs.terminals.reissue.Goals as goal

pub returns-in_default : goal.returns-in_default
returns-in_default g c printed =
    record { between = record { printed = _; done = _ }; found = Err Memory; is = (refl, refl); rest = (refl, refl) }

pub returns : goal.returns
returns g c printed = record {
  between = record { printed = _; done = _ };
  found = Ok c.in-Ok.text;
  is = (c.in-Ok.ensures, refl);
  rest = rw c.as_slice.ensures.value at (c.make_in_file.ensures printed);
}
