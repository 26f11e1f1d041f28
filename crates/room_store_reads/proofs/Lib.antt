-- filters of what is read
pub mod ReadFilters
pub mod KeyedUnions
pub mod Selected
pub mod CrewReads
-- which incidents were merged into one
pub mod MergedNumbers
-- which incidents that are read are known
pub mod KnownRows
-- the rows that a request reads, of the fleet and beside it
pub mod FleetReads
-- what is known of the room that moves meet
pub mod MoveReads
