use Rattle.std.proofs.Common.{inl, inr, refl}
use Rattle.dispatch_room_disk.proofs.WorkLemmas.{handed_on}
use Rattle.dispatch_room_changes.proofs.made_changes.keep_text.Goals as goal

pub returns-in-Ok-clause-kept : goal.returns-in-Ok-clause-kept
returns-in-Ok-clause-kept g c =
    record { head = c.in_ok-head.head; shows = c.in_ok-head.ensures.head; keeps = c.in-Ok.ensures.kept }

pub returns-in-Err-clause-fault : goal.returns-in-Err-clause-fault
returns-in-Err-clause-fault g c = inr (refl, c.in-Err.ensures.unkept)

pub returns-in_err-head-clause-fault : goal.returns-in_err-head-clause-fault
returns-in_err-head-clause-fault g c =
    handed_on c.from_residual.result _ c.from_residual.ensures.1
    (λ fault is. inl (rw is c.in_err-head.ensures.fault, refl))
