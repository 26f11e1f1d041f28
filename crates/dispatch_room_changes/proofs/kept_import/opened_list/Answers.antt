use Rattle.std.proofs.Common.{Ok, refl, sym, ◌∙◌}
use Rattle.dispatch_room_disk.proofs.WorkLemmas.{stops}
use Rattle.dispatch_room_changes.proofs.kept_import.opened_list.Goals as goal

pub returns-in_err-opened : goal.returns-in_err-opened
returns-in_err-opened g c printed =
    stops _ _ _ _ c.from_residual.result _ c.from_residual.ensures.1
    (λ fault is. rw is (c.in_err-opened.ensures.fault, c.in_err-opened.ensures.done, refl))

pub returns-in-Chain : goal.returns-in-Chain
returns-in-Chain g c printed = record {
  between = record { printed = _; done = _ };
  found = Ok c.in_ok-opened.opened;
  is = (tt, c.in_ok-opened.ensures.done, refl);
  rest = ((refl, (c.in-Chain.field-0, sym c.end.ensures ∙ c.in-Chain.is)), refl);
}

pub returns-in-Plain : goal.returns-in-Plain
returns-in-Plain g c printed = record {
  between = record { printed = _; done = _ };
  found = Ok c.in_ok-opened.opened;
  is = (tt, c.in_ok-opened.ensures.done, refl);
  rest = ((refl, sym c.end.ensures ∙ c.in-Plain.is), refl);
}
