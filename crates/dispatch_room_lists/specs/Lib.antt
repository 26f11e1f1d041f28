-- the room that a store stands for
pub mod StoodRooms
-- changes of a room's terminals and plan
pub mod RoomChanges
-- how many rows of a fleet that a list has are enrolled
pub mod ListedRows
-- the digest of a room that is printed
pub mod RoomDigests
-- a list that is replayed segment by segment
pub mod ReplayedLegs
-- what a replay ends with
pub mod ReplayEnds
-- a list that is replayed to a room
pub mod ReplayedLists
