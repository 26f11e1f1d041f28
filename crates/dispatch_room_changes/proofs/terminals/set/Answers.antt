use Rattle.std.proofs.Common.{Err, Ok, length, refl, rules, ◌≡◌}
use Rattle.dispatch_room_exit.specs.declared.exit_status.Failure.TheVariants.{Memory}
use Rattle.dispatch_room_disk.proofs.WorkLemmas.{stops}
use Rattle.dispatch_room_changes.proofs.terminals.set.Goals as goal

pub returns-in_default : goal.returns-in_default
returns-in_default g c = record {
  between = record { printed = _; done = _ };
  found = Err Memory;
  is =
      record { between = record { printed = _; done = _ }; found = Err Memory; is = (refl, refl); rest = (refl, refl) };
  rest = (refl, refl);
}

pub returns-in_err-make_in_file : goal.returns-in_err-make_in_file
returns-in_err-make_in_file g c =
    stops _ _ _ _ c.from_residual.result _ c.from_residual.ensures.1
    (λ fault is. record {
      between = record { printed = _; done = _ };
      found = Ok c.in-Ok.text;
      is = (rw c.as_slice.ensures.value at c.in-Ok.ensures, refl);
      rest = rw is ((rw c.as_slice-2.ensures.value at c.in_err-make_in_file.ensures) _);
    })

pub returns-in-Ok-writeln : goal.returns-in-Ok-writeln
returns-in-Ok-writeln g c =
    let count : c.len-count.result ≡ length c.args.listed.items = search rules in
    record {
      between = record { printed = _; done = _ };
      found = Ok tt;
      is = record {
        between = record { printed = _; done = _ };
        found = Ok c.in-Ok.text;
        is = (rw c.as_slice.ensures.value at c.in-Ok.ensures, refl);
        rest = (rw c.as_slice-2.ensures.value at c.in_ok-make_in_file.ensures) _;
      };
      rest = ((refl, rw count at c.in-Ok-writeln.ensures.bytes), refl);
    }

pub returns : goal.returns
returns g c = record {
  between = record { printed = _; done = _ };
  found = Ok tt;
  is = record {
    between = record { printed = _; done = _ };
    found = Ok c.in-Ok.text;
    is = (rw c.as_slice.ensures.value at c.in-Ok.ensures, refl);
    rest = (rw c.as_slice-2.ensures.value at c.in_ok-make_in_file.ensures) _;
  };
  rest = (refl, refl);
}
