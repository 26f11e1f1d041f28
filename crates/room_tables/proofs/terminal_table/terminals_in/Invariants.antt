use Rattle.std.proofs.Common.{◌≡◌, map, take}
use Rattle.room_tables_rows.specs.TerminalSql.{terminal_row}
use Rattle.room_tables.proofs.terminal_table.terminals_in.Given as goal

abbrev pub invariant-loop-columns : goal.invariant-loop-columns
invariant-loop-columns l = map terminal_row l.terminals.items ≡ take l.columns-index l.shown
