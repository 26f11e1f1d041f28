-- What calls on the tables make of the room.
-- what a read leaves
pub mod RoomReads
-- reads in a transaction
pub mod Inside
-- a statement that makes a change
pub mod Made
-- a vehicle that gets another holder
pub mod Settles
-- calls in a loop that change nothing
pub mod Repeats
-- the rowids of all tables
pub mod RowidLemmas
-- what was shown and is not read
pub mod Unread
-- lack of memory, a query whose rows are none of what is read, and the last of some reads
pub mod ReadFailures
-- a table whose rows are read one at a time
pub mod Streams
-- the greatest serial of calls
pub mod Serials
