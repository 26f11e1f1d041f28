use Rattle.std.proofs.Common.{inl, inr}
use Rattle.std.proofs.lemmas.Result.{IfErr-weaker, IfOk-weaker}
use Rattle.dispatch_room_changes.proofs.terminal_files.terminals_in.Goals as goal

pub returns-in-Ok-clause-given : goal.returns-in-Ok-clause-given
returns-in-Ok-clause-given c =
    IfOk-weaker c.crews_in.result _ _
    (λ listed is. inl (c.in-Ok.lines.items, c.in-Ok.ensures.fleet, rw c.as_slice.ensures.value at is))
    c.crews_in.ensures.crews

pub returns-in-Ok-clause-none : goal.returns-in-Ok-clause-none
returns-in-Ok-clause-none c =
    IfErr-weaker c.crews_in.result _ _
    (λ fault is. inr (inl (c.in-Ok.lines.items, c.in-Ok.ensures.fleet, rw c.as_slice.ensures.value at is)))
    c.crews_in.ensures.none
