use Rattle.std.proofs.Common.{Ok, refl}
use Rattle.dispatch_room_disk.proofs.WorkLemmas.{stops}
use Rattle.dispatch_room_commands.proofs.board.ask.Goals as goal

pub returns-in_err-said : goal.returns-in_err-said
returns-in_err-said g c = record {
  between = record { printed = _; done = _ };
  found = Ok _;
  is = c.has_colour-colour.ensures _;
  rest = stops _ _ _ _ c.from_residual.result _ c.from_residual.ensures.1
      (λ fault is. rw is (c.in_err-said.ensures _));
}

pub returns-in_err-told : goal.returns-in_err-told
returns-in_err-told g c = record {
  between = record { printed = _; done = _ };
  found = Ok _;
  is = c.has_colour-colour.ensures _;
  rest = record {
    between = record { printed = _; done = _ };
    found = Ok _;
    is = c.in_ok-said.ensures _;
    rest = stops _ _ _ _ c.from_residual-in_err-told.result _ c.from_residual-in_err-told.ensures.1
        (λ fault is. rw is (rw c.as_slice.ensures.value at c.in_err-told.ensures _));
  };
}

pub returns : goal.returns
returns g c = record {
  between = record { printed = _; done = _ };
  found = Ok _;
  is = c.has_colour-colour.ensures _;
  rest = record {
    between = record { printed = _; done = _ };
    found = Ok _;
    is = c.in_ok-said.ensures _;
    rest = record {
      between = record { printed = _; done = _ };
      found = Ok _;
      is = rw c.as_slice.ensures.value at c.in_ok-told.ensures _;
      rest = (
        rw (c.is_some-proposes.ensures, c.as_slice-2.ensures.value, c.as_slice-3.ensures.value) at c.print.ensures,
        refl,
      );
    };
  };
}
