-- how much of a table a request reads
pub mod Selections
-- which incidents a request reads
pub mod RequestReads
-- what the parts of a division's working rows are of the room
pub mod Partitions
-- what is known of the incidents that a request reads
pub mod KnownParts
-- what the parts of a vehicle's rows are of the room
pub mod CrewParts
-- what moves read of the room
pub mod MoveParts
