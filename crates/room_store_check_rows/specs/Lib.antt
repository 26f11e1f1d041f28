pub mod TerminalCrews
pub mod FirstFaults
pub mod RowTests
-- turns, reports and calls that are judged one at a time
pub mod HistoryChecks
pub mod Misfits
pub mod Summaries
pub mod Disagreements
