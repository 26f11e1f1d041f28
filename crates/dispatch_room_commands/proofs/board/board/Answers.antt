use Rattle.std.proofs.Common.{Ok, refl}
use Rattle.dispatch_room_disk.proofs.WorkLemmas.{stops}
use Rattle.dispatch_room_commands.proofs.board.board.Goals as goal

pub returns-in_err-may_ask : goal.returns-in_err-may_ask
returns-in_err-may_ask g c =
    stops _ _ _ _ c.from_residual.result _ c.from_residual.ensures.1
    (λ fault is. rw is (c.in_err-may_ask.ensures, refl))

pub returns-in_err-token : goal.returns-in_err-token
returns-in_err-token g c = record {
  between = record { printed = _; done = _ };
  found = Ok _;
  is = (c.in_ok-may_ask.ensures, refl);
  rest = stops _ _ _ _ c.from_residual-in_err-token.result _ c.from_residual-in_err-token.ensures.1
      (λ fault is. rw is (c.in_err-token.ensures _));
}

pub returns : goal.returns
returns g c = record {
  between = record { printed = _; done = _ };
  found = Ok _;
  is = (c.in_ok-may_ask.ensures, refl);
  rest = record {
    between = record { printed = _; done = _ };
    found = Ok _;
    is = c.in_ok-token.ensures _;
    rest = c.ask.ensures;
  };
}
