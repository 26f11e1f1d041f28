use Rattle.std.proofs.Common.{◌∙◌, ap, sym}
use Rattle.std.proofs.lemmas.Result.{IfOk-weaker}
use Rattle.dispatch_room_disk.proofs.WorkLemmas.{handed_on}
use Rattle.dispatch_room_tcp.proofs.serve.serve_listened.Goals as goal

pub returns-clause-served : goal.returns-clause-served
returns-clause-served g c =
    let is = rw c.new-callers.ensures.listener at c.in_ok-done.ensures.served in
    record {
      hears = g.L.Listener.heard c.serve_parts-came.new.callers.listener;
      writes = g.L.Listener.written c.serve_parts-came.new.callers.listener;
      known = IfOk-weaker c.given_back.result _ _
          (λ served same. (
            ap g.L.Listener.heard (sym (same ∙ c.into_listener-listener.ensures.listener)),
            ap g.L.Listener.written (sym (same ∙ c.into_listener-listener.ensures.listener)),
          ))
          c.given_back.ensures.listener;
      is = rw (sym c.given_back.ensures.done) at is;
    }

pub returns-in_err-done-clause-fault : goal.returns-in_err-done-clause-fault
returns-in_err-done-clause-fault g c =
    let written = rw c.new-callers.ensures.listener at c.in_err-done.ensures.fault in
    handed_on c.from_residual.result _ c.from_residual.ensures.1 (λ fault is. rw (← is) at written)
