use Rattle.std.proofs.Common.{Ok, refl}
use Rattle.dispatch_room_disk.proofs.WorkLemmas.{stops}
use Rattle.dispatch_room_changes.proofs.terminals.renew.Goals as goal

pub returns-in_err-token : goal.returns-in_err-token
returns-in_err-token g c printed =
    stops _ _ _ _ c.from_residual.result _ c.from_residual.ensures.1
    (λ fault is. rw is (c.in_err-token.ensures printed))

pub returns-in_err-reissue : goal.returns-in_err-reissue
returns-in_err-reissue g c printed = record {
  between = record { printed = _; done = _ };
  found = Ok c.in_ok-token.token;
  is = c.in_ok-token.ensures printed;
  rest = stops _ _ _ _ c.from_residual-in_err-reissue.result _ c.from_residual-in_err-reissue.ensures.1
      (λ fault is. rw is (c.in_err-reissue.ensures printed));
}

pub returns : goal.returns
returns g c printed = record {
  between = record { printed = _; done = _ };
  found = Ok c.in_ok-token.token;
  is = c.in_ok-token.ensures printed;
  rest = record {
    between = record { printed = _; done = _ };
    found = Ok tt;
    is = c.in_ok-reissue.ensures printed;
    rest = (refl, refl);
  };
}
