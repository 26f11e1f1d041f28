-- what was found, and what a fault says
pub mod Findings
-- rows of all tables, read one after another
pub mod RowLaws
-- one row more of those that are judged, and of those that are kept of them
pub mod HistoryLaws
-- rows read and judged one at a time
pub mod StreamLaws
