use Rattle.std.proofs.Common.{Ok, refl}
use Rattle.dispatch_room_disk.proofs.WorkLemmas.{both, either_way, failed_so, stops}
use Rattle.dispatch_room_changes.specs.ChangeTasks.{Creates}
use Rattle.dispatch_room_tcp.proofs.HostLemmas.{works}
use Rattle.dispatch_room_changes.proofs.init.init_by.Goals as goal

pub returns-in_err-plan : goal.returns-in_err-plan
returns-in_err-plan g c =
    stops _ _ _ _ c.from_residual.result _ c.from_residual.ensures.1
    (λ fault is. (rw is c.in_err-plan.ensures.none, refl))

pub returns-in_err-conn : goal.returns-in_err-conn
returns-in_err-conn g c = record {
  between = record { printed = _; done = _ };
  found = Ok c.in_ok-plan.plan;
  is = (c.in_ok-plan.ensures.plan, refl);
  rest = stops _ _ _ _ c.from_residual-in_err-conn.result _ c.from_residual-in_err-conn.ensures.1
      (λ fault is. rw is (c.in_err-conn.ensures.fault, c.in_err-conn.ensures.done, refl));
}

pub returns : goal.returns
returns g c =
    let came = c.create_in-created.ensures in
    let created = c.create_in-created.result in
    record {
      between = record { printed = _; done = _ };
      found = Ok c.in_ok-plan.plan;
      is = (c.in_ok-plan.ensures.plan, refl);
      rest = works (Creates c.in_ok-plan.plan)
          _ c.in_ok-conn.conn created _ c.in_ok-conn.ensures.connected c.in_ok-conn.ensures.done
          (either_way created _ _ (both created _ _ came.created came.printed)
          (failed_so created _ _ came.fault came.unprinted))
          c.close.ensures.closes
          c.close.ensures.done;
    }
