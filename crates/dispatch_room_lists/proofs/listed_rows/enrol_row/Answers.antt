use Rattle.std.proofs.Common.{ap, arith}
use Rattle.dispatch_room_lists.proofs.DueLemmas.{one_row}
use Rattle.dispatch_room_lists.proofs.listed_rows.enrol_row.Goals as goal

pub returns-in-Ok-clause-goes : goal.returns-in-Ok-clause-goes
returns-in-Ok-clause-goes g c = record {
  ready = c.import.ensures.ready;
  zone = ap (λ plan. plan.zone) c.import.ensures.plan;
  trusted = λ clean. omega (arith, c.import.ensures.survives.clean, clean);
}

pub returns-clause-goes : goal.returns-clause-goes
returns-clause-goes g c = record {
  ready = c.import.ensures.ready;
  zone = ap (λ plan. plan.zone) c.import.ensures.plan;
  trusted = λ clean. omega (arith, c.import.ensures.survives.clean, clean);
}

pub returns-clause-part : goal.returns-clause-part
returns-clause-part g c clean terminals held is =
    one_row _ _ _ _ _ _ terminals held
    (rw c.from_ref.ensures.value at (c.import.ensures.enrolled clean terminals held is).0)
