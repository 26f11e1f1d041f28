-- Rows are read back as they were written; what reads and writes make of the room.

pub mod RowLaws
-- what a reader returns for codes and texts
pub mod ReadLaws
-- lists: the next row, the row of a key
pub mod Found
-- SQL's comparisons of values of the room
pub mod Tests
-- from what a selection shows to the room's rows
pub mod Loads
-- one table that changed
pub mod Kept
-- from an upsert or a deletion to the room afterwards
pub mod Puts
-- the statements on each table
pub mod DivisionsTable
pub mod IncidentsTable
pub mod CallsTable
pub mod VehiclesTable
pub mod TurnsTable
pub mod AssignmentsTable
pub mod PointsTable
pub mod LoansTable
pub mod ReportsTable
pub mod OffersTable
pub mod MetaTable
pub mod AreasTable
pub mod TerminalsTable
-- areas with their places in the plan
pub mod PlanLaws
-- the puts that a room begins with
pub mod Starts
-- the version that a file gives
pub mod Version
-- a room of the first version that becomes one of this
pub mod Moves
-- one room only
pub mod OneRoom
