use Rattle.std.proofs.Common.{Ok, refl}
use Rattle.std.proofs.lemmas.Result.{IfOk-weaker}
use Rattle.dispatch_room_disk.proofs.WorkLemmas.{either_way, stops}
use Rattle.dispatch_room_changes.specs.ChangeTasks.{ChangesKept}
use Rattle.dispatch_room_tcp.proofs.HostLemmas.{works}
use Rattle.dispatch_room_changes.proofs.KeptLemmas.{opened_as}
use Rattle.dispatch_room_changes.proofs.kept_changes.make_kept.Goals as goal

pub returns-in_err-opened : goal.returns-in_err-opened
returns-in_err-opened g c printed =
    stops _ _ _ _ c.from_residual.result _ c.from_residual.ensures.1
    (λ fault is. rw is (c.in_err-opened.ensures printed))

pub returns-in_err-conn : goal.returns-in_err-conn
returns-in_err-conn g c printed = record {
  between = record { printed = _; done = _ };
  found = Ok c.in_ok-opened.opened;
  is = c.in_ok-opened.ensures printed;
  rest = stops _ _ _ _ c.from_residual-in_err-conn.result _ c.from_residual-in_err-conn.ensures.1
      (λ fault is. rw is (c.in_err-conn.ensures.fault, c.in_err-conn.ensures.done, refl));
}

pub returns : goal.returns
returns g c printed =
    let is = opened_as _ _ _ _ c.into_file-kept.ensures.file c.into_file-kept.ensures.end c.new-list.ensures in
    let made = c.make_kept_in-made.result in
    record {
      between = record { printed = _; done = _ };
      found = Ok c.in_ok-opened.opened;
      is = c.in_ok-opened.ensures printed;
      rest =
          works (ChangesKept g.M.File.Write.contents g.M.File.Lasting.lasting c.in_ok-opened.opened c.args.change.now
          c.args.text.now)
          _ c.in_ok-conn.conn made _ c.in_ok-conn.ensures.connected c.in_ok-conn.ensures.done (
            (
              c.new-list.result,
              is,
              either_way made _ _
                  (IfOk-weaker made _ _ (λ worked done. (c.make_kept_in-made.new.list, done))
                  c.make_kept_in-made.ensures.made)
                  c.make_kept_in-made.ensures.fault,
            ),
            refl,
          )
          c.close.ensures.closes
          c.close.ensures.done;
    }
