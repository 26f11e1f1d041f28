use Rattle.std.proofs.Common.{Ok, refl}
use Rattle.dispatch_room_disk.proofs.WorkLemmas.{both, either_way, failed_so, stops}
use Rattle.dispatch_room_changes.specs.ChangeTasks.{Enrols}
use Rattle.dispatch_room_tcp.proofs.HostLemmas.{works}
use Rattle.dispatch_room_changes.proofs.import.import_rows.Goals as goal

pub returns-in_err-lines : goal.returns-in_err-lines
returns-in_err-lines g c =
    stops _ _ _ _ c.from_residual.result _ c.from_residual.ensures.1
    (λ fault is. (rw is c.in_err-lines.ensures.none, refl))

pub returns-in_err-conn : goal.returns-in_err-conn
returns-in_err-conn g c = record {
  between = record { printed = _; done = _ };
  found = Ok c.in_ok-lines.lines;
  is = (c.in_ok-lines.ensures.fleet, refl);
  rest = stops _ _ _ _ c.from_residual-in_err-conn.result _ c.from_residual-in_err-conn.ensures.1
      (λ fault is. rw is (c.in_err-conn.ensures.fault, c.in_err-conn.ensures.done, refl));
}

pub returns : goal.returns
returns g c =
    let came = rw c.as_slice.ensures.value at c.enrol_in-enrolled.ensures in
    let enrolled = c.enrol_in-enrolled.result in
    record {
      between = record { printed = _; done = _ };
      found = Ok c.in_ok-lines.lines;
      is = (c.in_ok-lines.ensures.fleet, refl);
      rest = works (Enrols c.in_ok-lines.lines.items)
          _ c.in_ok-conn.conn enrolled _ c.in_ok-conn.ensures.connected c.in_ok-conn.ensures.done
          (either_way enrolled _ _ (both enrolled _ _ came.imported came.printed)
          (failed_so enrolled _ _ came.fault came.unprinted))
          c.close.ensures.closes
          c.close.ensures.done;
    }
