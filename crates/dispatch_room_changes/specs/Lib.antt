-- an import that is kept in a list
pub mod KeptImports
-- a change that is kept in a list
pub mod MadeChanges
-- the terminals that a plan's or a fleet's file gives
pub mod TerminalFiles
-- what a change of a room's file does in its database
pub mod ChangeTasks
-- what a change of a room's file does, step after step
pub mod ChangeSteps
