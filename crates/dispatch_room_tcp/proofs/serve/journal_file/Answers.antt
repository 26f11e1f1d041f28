use Rattle.std.proofs.Common.{Ok, refl}
use Rattle.dispatch_room_disk.proofs.WorkLemmas.{stops}
use Rattle.dispatch_room_tcp.proofs.serve.journal_file.Goals as goal

pub returns-in_err-open_journal-in-Some-clause-opens : goal.returns-in_err-open_journal-in-Some-clause-opens
returns-in_err-open_journal-in-Some-clause-opens g c printed =
    rw c.in-Some.is
    (stops _ _ _ _ c.from_residual.result _ c.from_residual.ensures.1
    (λ fault is. rw is (c.in_err-open_journal-in-Some.ensures.fault, c.in_err-open_journal-in-Some.ensures.done, refl)))

pub returns-in_ok-open_journal-in-Some-clause-opens : goal.returns-in_ok-open_journal-in-Some-clause-opens
returns-in_ok-open_journal-in-Some-clause-opens g c printed =
    rw c.in-Some.is
    record {
      between = record { printed = _; done = _ };
      found = Ok _;
      is = (tt, c.in_ok-open_journal-in-Some.ensures.done, refl);
      rest = (refl, refl);
    }

pub returns-in-None-clause-opens : goal.returns-in-None-clause-opens
returns-in-None-clause-opens g c printed = rw c.in-None.is (refl, refl)
