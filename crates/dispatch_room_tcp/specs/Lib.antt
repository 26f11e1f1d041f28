-- what a command does with its machine
pub mod Hosts
-- what is heard on a connection
pub mod HeardRooms
-- how the callers of a listener are parted from
pub mod Listeners
-- a room that is served in parts
pub mod ServedParts
-- the acceptor of the system
pub mod SystemAcceptors
-- the room of a file that is served
pub mod ServedFiles
