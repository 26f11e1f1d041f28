-- the numbers of the dry run
pub mod DryRun
-- how the dry run ends as a program
pub mod DryRunEnds
-- the example room, and what a connection to it is served
pub mod Example
