use Rattle.std.proofs.Common.{Ok, refl}
use Rattle.std.proofs.lemmas.Result.{IfOk-weaker}
use Rattle.dispatch_room_disk.proofs.WorkLemmas.{either_way, failed_so, stops}
use Rattle.dispatch_room_changes.specs.ChangeTasks.{EnrolsKept}
use Rattle.dispatch_room_tcp.proofs.HostLemmas.{works}
use Rattle.dispatch_room_changes.proofs.KeptLemmas.{opened_as}
use Rattle.dispatch_room_changes.proofs.kept_import.import_kept_by.Goals as goal

pub returns-in_err-lines : goal.returns-in_err-lines
returns-in_err-lines g c =
    stops _ _ _ _ c.from_residual.result _ c.from_residual.ensures.1
    (λ fault is. (rw is c.in_err-lines.ensures.none, refl))

pub returns-in_err-opened : goal.returns-in_err-opened
returns-in_err-opened g c = record {
  between = record { printed = _; done = _ };
  found = Ok c.in_ok-lines.lines;
  is = (c.in_ok-lines.ensures.fleet, refl);
  rest = stops _ _ _ _ c.from_residual-in_err-opened.result _ c.from_residual-in_err-opened.ensures.1
      (λ fault is. rw is (c.in_err-opened.ensures _));
}

pub returns-in_err-conn : goal.returns-in_err-conn
returns-in_err-conn g c = record {
  between = record { printed = _; done = _ };
  found = Ok c.in_ok-lines.lines;
  is = (c.in_ok-lines.ensures.fleet, refl);
  rest = record {
    between = record { printed = _; done = _ };
    found = Ok c.in_ok-opened.opened;
    is = c.in_ok-opened.ensures _;
    rest = stops _ _ _ _ c.from_residual-in_err-conn.result _ c.from_residual-in_err-conn.ensures.1
        (λ fault is. rw is (c.in_err-conn.ensures.fault, c.in_err-conn.ensures.done, refl));
  };
}

pub returns : goal.returns
returns g c =
    let is = opened_as _ _ _ _ c.into_file-kept.ensures.file c.into_file-kept.ensures.end c.new-list.ensures in
    let came = rw c.as_slice.ensures.value at c.import_in-imported.ensures in
    let imported = c.import_in-imported.result in
    record {
      between = record { printed = _; done = _ };
      found = Ok c.in_ok-lines.lines;
      is = (c.in_ok-lines.ensures.fleet, refl);
      rest = record {
        between = record { printed = _; done = _ };
        found = Ok c.in_ok-opened.opened;
        is = c.in_ok-opened.ensures _;
        rest = works (EnrolsKept g.M.File.Write.contents g.M.File.Lasting.lasting
            c.in_ok-opened.opened c.in_ok-lines.lines.items c.args.sheet.text.now)
            _ c.in_ok-conn.conn imported _ c.in_ok-conn.ensures.connected c.in_ok-conn.ensures.done
            (either_way imported _ _
            (IfOk-weaker imported _ _
            (λ worked done. (c.new-list.result, c.import_in-imported.new.list, is, done)) came.imported)
            (failed_so imported _ _ came.fault came.unprinted))
            c.close.ensures.closes
            c.close.ensures.done;
      };
    }
