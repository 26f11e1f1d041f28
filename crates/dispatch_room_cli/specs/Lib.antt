-- addresses of this machine, and others
pub mod Addresses
-- what a command line asks for
pub mod Tasks
-- how those who have a terminal are named
pub mod TerminalNames
-- the command line
pub mod CommandLines
-- the program as clap has it
pub mod CommandForms
-- words that ask for an explanation
pub mod ExplainedFailures
-- what a command asks for
pub mod AskedTasks
-- the names of a database's files
pub mod DatabaseNames
