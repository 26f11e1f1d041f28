use Rattle.std.proofs.Common.{None, Some, subst, sym, ◌∙◌, ◌≡◌}
use Rattle.room_store_writes.proofs.ChangeLaws.{explained}
use Rattle.room_store_writes.specs.TerminalChanges.{fault_in}
use Rattle.room_store_writes.proofs.terminal_changes.find_fault.Goals as goal

pub returns-in-Some-clause-why : goal.returns-in-Some-clause-why
returns-in-Some-clause-why g c clean =
    let change = c.args.change.now in
    explained c.args.plan.now.areas change.who change.token _ c.in-Some.fault
    (λ config room h.
    subst (λ ts. fault_in c.args.plan.now.areas ts change.who change.token ≡ Some c.in-Some.fault)
    (c.as_slice.ensures.value ∙ c.in_ok-terminals.ensures.terminals clean config room h)
    (sym c.fault_in.ensures ∙ c.in-Some.is))

pub returns-clause-ok : goal.returns-clause-ok
returns-clause-ok g c clean config room h =
    let change = c.args.change.now in
    subst (λ ts. fault_in c.args.plan.now.areas ts change.who change.token ≡ None)
    (c.as_slice.ensures.value ∙ c.in_ok-terminals.ensures.terminals clean config room h)
    (sym c.fault_in.ensures ∙ c.in-None.is)
