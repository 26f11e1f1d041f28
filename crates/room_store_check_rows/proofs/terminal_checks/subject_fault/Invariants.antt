use Rattle.std.proofs.Common.{drop, ◌≡◌}
use Rattle.room_types.specs.declared.fleet.Terminal.{Terminal}
use Rattle.room_store_check_rows.specs.TerminalCrews.{subject_fault}
use Rattle.room_store_check_rows.specs.FirstFaults.{first_of}
use Rattle.room_store_check_rows.proofs.terminal_checks.subject_fault.Given as goal

abbrev pub invariant-loop-terminal : goal.invariant-loop-terminal
invariant-loop-terminal l =
    let f = λ (t : Terminal). subject_fault l.plan.areas l.rows t.who in
    first_of f l.terminals ≡ first_of f (drop l.terminal-index l.terminals)
