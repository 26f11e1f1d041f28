use Rattle.room_store_check_rows.proofs.TerminalFaults.{none_detected}
use Rattle.room_store_check_rows.proofs.terminal_checks.do_terminals_fit.Goals as goal

pub returns-clause-test : goal.returns-clause-test
returns-clause-test c = none_detected _ _ _ _ c.is_none.ensures c.in_ok-terminals_fault.ensures.detected
