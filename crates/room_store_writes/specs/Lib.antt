-- what a transaction makes of the tables
pub mod Transactions
-- what they keep beside the room
pub mod Configurations
-- a room that begins
pub mod NewRoom
-- what the enrolment of a fleet row makes of them
pub mod EnrolledRows
-- who may have a terminal, and the terminals after a change
pub mod TerminalHolders
-- why terminals are not changed, and what a change makes of the tables
pub mod TerminalChanges
