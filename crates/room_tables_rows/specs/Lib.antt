-- Rows as columns, which room the tables stand for, and what statements make of it.
-- what a value of the room is in a column, and back
pub mod ColumnValues
-- which columns a reader takes
pub mod ReadableColumns
-- the columns of a key
pub mod KeyColumns
-- the columns of each row, and back, a file a table
pub mod MetaSql
pub mod AreaSql
pub mod TerminalSql
pub mod DivisionSql
pub mod IncidentSql
pub mod CallSql
pub mod VehicleSql
pub mod TurnSql
pub mod AssignmentSql
pub mod PointSql
pub mod LoanSql
pub mod ReportSql
pub mod OfferSql
-- a table that stands for a list, and the tables that stand for a room
pub mod RoomsInTables
-- what a table is to the room, and what the statements on it say
pub mod Tables
-- files of other versions
pub mod MetaVersions
-- what is found
pub mod OptionalRows
-- what a write leaves
pub mod Writes
