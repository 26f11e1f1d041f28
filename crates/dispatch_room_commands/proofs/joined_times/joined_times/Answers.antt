use Rattle.std.proofs.Common.{Ok, refl}
use Rattle.dispatch_room_disk.proofs.WorkLemmas.{stops}
use Rattle.dispatch_room_commands.proofs.joined_times.joined_times.Goals as goal

pub returns-in_err-newer : goal.returns-in_err-newer
returns-in_err-newer g c =
    stops _ _ _ _ c.from_residual.result _ c.from_residual.ensures.1
    (λ fault is. rw is (c.in_err-newer.ensures _))

pub returns-in_err-report : goal.returns-in_err-report
returns-in_err-report g c = record {
  between = record { printed = _; done = _ };
  found = Ok c.in_ok-newer.newer;
  is = c.in_ok-newer.ensures _;
  rest = stops _ _ _ _ c.from_residual-in_err-report.result _ c.from_residual-in_err-report.ensures.1
      (λ fault is. rw is (c.in_err-report.ensures _));
}

pub returns : goal.returns
returns g c = record {
  between = record { printed = _; done = _ };
  found = Ok c.in_ok-newer.newer;
  is = c.in_ok-newer.ensures _;
  rest = record {
    between = record { printed = _; done = _ };
    found = Ok c.in_ok-report.report;
    is = c.in_ok-report.ensures _;
    rest = (rw c.as_slice.ensures.value at c.print.ensures, refl);
  };
}
