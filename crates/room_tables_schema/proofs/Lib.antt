-- Proofs of the tables of a room.
-- parts that fit their forms
pub mod Fitting
-- databases that grow by tables and indexes
pub mod Growth
-- what each text makes of the schema before it
pub mod Leading
-- The proofs of the laws, the lists first and the tables last.
-- lists that rise, and lists of rows distinguished by their rowids
pub mod Rising
pub mod Numbered
-- what a tree stands for, under edits
pub mod Standing
-- values: SQL's comparisons, what a column keeps and a program reads
pub mod Comparisons
pub mod ColumnValues
-- statements: SELECT, then DELETE, UPDATE, the upsert and INSERT by the steps of a write, then CREATE
pub mod Selections
pub mod Writes
pub mod Deletions
pub mod StoredRows
pub mod Overwrites
pub mod Upserts
pub mod Insertions
pub mod Definitions
-- what a query leaves that fails, and what it leaves to a stop
pub mod Refusals
-- reads one after another
pub mod ReadLaws
-- and writes in a transaction
pub mod WriteLaws
-- typed rows, the statements on a list of them, and how such a list is found at an open
pub mod TypedRows
pub mod TypedTables
pub mod Openings
-- rows that are read one at a time
pub mod Streams
