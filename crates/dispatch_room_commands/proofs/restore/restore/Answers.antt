use Rattle.std.proofs.Common.{Err, Ok, refl}
use Rattle.dispatch_room_disk.proofs.WorkLemmas.{stops}
use Rattle.dispatch_room_commands.proofs.restore.restore.Goals as goal

pub returns-in_err-done : goal.returns-in_err-done
returns-in_err-done g c =
    stops _ _ _ _ c.from_residual.result _ c.from_residual.ensures.1
    (λ fault is. rw is c.in_err-done.ensures)

pub returns-in_err-found : goal.returns-in_err-found
returns-in_err-found g c = record {
  between = record { printed = _; done = _ };
  found = Ok c.in_ok-done.done;
  is = c.in_ok-done.ensures;
  rest = stops _ _ _ _ c.from_residual-in_err-found.result _ c.from_residual-in_err-found.ensures.1
      (λ fault is. rw is (c.in_err-found.ensures _));
}

pub returns-in_err-print_found : goal.returns-in_err-print_found
returns-in_err-print_found g c = record {
  between = record { printed = _; done = _ };
  found = Ok c.in_ok-done.done;
  is = c.in_ok-done.ensures;
  rest = record {
    between = record { printed = _; done = _ };
    found = Ok c.in_ok-found.found;
    is = c.in_ok-found.ensures _;
    rest = stops _ _ _ _ c.from_residual-in_err-print_found.result _ c.from_residual-in_err-print_found.ensures.1
        (λ fault is. rw is (c.in_err-print_found.ensures, refl));
  };
}

pub returns : goal.returns
returns g c = record {
  between = record { printed = _; done = _ };
  found = Ok c.in_ok-done.done;
  is = c.in_ok-done.ensures;
  rest = record {
    between = record { printed = _; done = _ };
    found = Ok c.in_ok-found.found;
    is = c.in_ok-found.ensures _;
    rest = record {
      between = record { printed = _; done = _ };
      found = Ok _;
      is = (c.in_ok-print_found.ensures, refl);
      rest = (refl, refl);
    };
  };
}
