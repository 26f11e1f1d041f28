use Rattle.std.proofs.Common.{Ok, refl}
use Rattle.dispatch_room_disk.proofs.WorkLemmas.{stops}
use Rattle.dispatch_room_changes.proofs.import.import.Goals as goal

pub returns-in_err-text : goal.returns-in_err-text
returns-in_err-text g c =
    stops _ _ _ _ c.from_residual.result _ c.from_residual.ensures.1
    (λ fault is. rw is (c.in_err-text.ensures.fault, c.in_err-text.ensures.done, refl))

pub returns : goal.returns
returns g c =
    record {
      between = record { printed = _; done = _ };
      found = Ok c.in_ok-text.text;
      is = (tt, c.in_ok-text.ensures.done, refl);
      rest = rw (c.new-sheet.ensures, c.as_slice.ensures.value) at c.import_rows.ensures;
    }
