-- the names of what restores set aside
pub mod AsideNames
-- what a command does, step after step
pub mod CommandSteps
-- what the faults of files are to the program
pub mod DiskFaults
-- what is done with files, step after step
pub mod FileSteps
-- the files of new rooms
pub mod NewFiles
-- the steps by which a room's file is opened
pub mod OpeningSteps
-- the steps by which a copy is put in the place of a file
pub mod ReplacingSteps
-- the files of the system
pub mod SystemFiles
-- the database of a room's file, opened and closed
pub mod RoomFiles
-- what becomes of the files beside a path wherever restores are stopped
pub mod StoppedRestores
