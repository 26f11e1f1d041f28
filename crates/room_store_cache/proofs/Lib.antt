-- filters of rows, and the tests that they pass
pub mod Filters
-- what a change does to rows kept beside a table, and to a list whose elements each follow it
pub mod KeptLaws
-- what a change does to the incidents that are known, and what a call is given of them
pub mod RecentLaws
-- what a change does to the fleet's rows and the turns that are known
pub mod FleetLaws
-- what a change does to the incident views that are kept
pub mod DossierLaws
-- what a queue reads
pub mod QueueReads
-- what a request reads of one incident
pub mod OneIncident
-- a terminal that is known
pub mod TerminalLaws
-- which incidents a list has
pub mod ShownLaws
-- what reads one after another leave of the connection
pub mod StillRooms
