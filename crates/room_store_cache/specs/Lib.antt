-- incidents that were opened in one half hour
pub mod HalfHours
-- which incidents are known
pub mod RecentIncidents
-- lemmas: the keys of entries distinguish them
pub mod EntryLemmas
-- what a request reads beside the fleet
pub mod HistoryRows
-- which queue views are of a room
pub mod QueueViews
-- which incident views are of a room
pub mod IncidentViews
-- which incidents that were shown are of a room
pub mod ShownLists
-- which turns are open ones of a room
pub mod OpenTurns
-- which terminals are of a room
pub mod KnownTerminals
-- numbers of incidents
pub mod IncidentNumbers
-- what is known of a room
pub mod Cache
