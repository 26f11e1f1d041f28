pub mod CommitLaws
pub mod CreationSteps
-- what is read in a transaction
pub mod TransactionReads
-- the statements that drop terminals, and what they make of a room
pub mod DropLaws
-- the terminals afterwards, and that they fit the room
pub mod FitLaws
-- why nothing was changed
pub mod ChangeLaws
