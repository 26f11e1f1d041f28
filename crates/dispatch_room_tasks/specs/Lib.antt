-- what a fault of the store is to the program
pub mod OpeningFaults
-- the room that is opened in a database
pub mod OpenedRoom
-- a room that was created, and what is reported of it
pub mod Creation
-- a room that was moved from the first version
pub mod Migration
-- what is reported of the rows of a fleet
pub mod RowOutcomes
-- what came of the lines of a fleet in a room
pub mod Enrolment
-- who has a terminal in a room
pub mod ListedTerminals
-- the terminals of one that were changed
pub mod ChangedTerminals
-- the terminals of all that a list names, replaced
pub mod ReplacedTerminals
-- a room that gets another plan
pub mod ReplannedRoom
-- what may change a room, one deed after another
pub mod Deeds
-- the letters of random bytes
pub mod RandomTokens
