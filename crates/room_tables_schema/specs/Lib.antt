-- What a room's file is made of, and why its database fails.
-- the tables and indexes
pub mod Schema
-- what is known of a connection to it
pub mod FileConnections
-- files of other versions
pub mod Versions
-- what the texts that make them do
pub mod Definitions
-- what a schema is tested for
pub mod Forms
pub mod BareTables
-- the errors of the database, as faults
pub mod DatabaseFaults
-- The words of the laws, and the laws.
-- what a tree of rows stands for
pub mod TableTrees
-- what the text of a statement means
pub mod Statements
-- what a call leaves of a connection
pub mod Outcomes
-- a type of rows written as rows of SQL
pub mod TypedRows
-- what the statements make of what a table stands for
pub mod Laws
-- what is made of rows that are shown one at a time
pub mod QueryStreams
