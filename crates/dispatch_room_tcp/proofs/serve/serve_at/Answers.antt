use Rattle.std.proofs.Common.{Ok, refl}
use Rattle.dispatch_room_disk.proofs.WorkLemmas.{both, either_way, failed_so, stops}
use Rattle.dispatch_room_tcp.proofs.serve.serve_at.Goals as goal

pub returns-in_err-conn : goal.returns-in_err-conn
returns-in_err-conn g c =
    stops _ _ _ _ c.from_residual.result _ c.from_residual.ensures.1
    (λ fault is. rw is (c.in_err-conn.ensures.fault, c.in_err-conn.ensures.done, refl))

pub returns-in_err-served : goal.returns-in_err-served
returns-in_err-served g c =
    let said = c.serve_listened-came.ensures in
    record {
      between = record { printed = _; done = _ };
      found = Ok c.in_ok-conn.conn;
      is = (c.in_ok-conn.ensures.connected, c.in_ok-conn.ensures.done, refl);
      rest = stops _ _ _ _ c.from_residual-in_err-served.result _ c.from_residual-in_err-served.ensures.1
          (λ fault is. rw is record {
            at = record { printed = _; done = _ };
            worked = c.serve_listened-came.result;
            did = either_way c.serve_listened-came.result _ _
                (both c.serve_listened-came.result _ _ said.served said.printed)
                (failed_so c.serve_listened-came.result _ _ said.fault said.unopened);
            closes = c.in_err-served.ensures.closes;
            done = c.in_err-served.ensures.done;
            printed = refl;
          });
    }

pub returns : goal.returns
returns g c =
    let said = c.serve_listened-came.ensures in
    record {
      between = record { printed = _; done = _ };
      found = Ok c.in_ok-conn.conn;
      is = (c.in_ok-conn.ensures.connected, c.in_ok-conn.ensures.done, refl);
      rest = record {
        between = record { printed = _; done = _ };
        found = Ok c.in_ok-served.served;
        is = record {
          at = record { printed = _; done = _ };
          worked = c.serve_listened-came.result;
          did = either_way c.serve_listened-came.result _ _
              (both c.serve_listened-came.result _ _ said.served said.printed)
              (failed_so c.serve_listened-came.result _ _ said.fault said.unopened);
          closes = c.in_ok-served.ensures.closes;
          done = c.in_ok-served.ensures.done;
          printed = refl;
        };
        rest = (refl, refl);
      };
    }
