-- What is read and written of a room's tables, and why that fails.
-- whether all rows are numbered
pub mod Rowids
-- what is found of a room
pub mod FoundRows
-- what a fault says
pub mod Failures
-- rows that are read one at a time
pub mod RowStreams
-- a statement that ran
pub mod ChangeStatements
pub use Rattle.room_tables_rows.specs.RoomsInTables
pub use Rattle.room_tables_rows.specs.Tables
pub use Rattle.room_tables_rows.specs.MetaVersions
pub use Rattle.room_tables_rows.specs.OptionalRows
pub use Rattle.room_tables_rows.specs.Writes
