-- how a command ends
pub mod CommandEnds
-- what is printed of a list
pub mod VerifiedLists
-- the token of a board
pub mod TokenFiles
-- what each command does in a database
pub mod RoomTasks
-- what a task says, step after step
pub mod TaskSteps
