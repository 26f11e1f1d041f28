-- numbers as bytes
pub mod Numbers
-- bytes added to a hash, one after another
pub mod Added
-- tables read, one after another
pub mod Tables
-- the texts that read the tables of a room
pub mod WholeTables
-- what bytes encode
pub mod DecodableTexts
-- rooms whose texts are the same
pub mod Rooms
-- what is read and written in a transaction
pub mod Inside
-- why changes were undone
pub mod Undoing
-- what was found is reported of the file
mod ExaminedLaws
pub mod FileLaws
-- tables that are taken
pub mod TakeLaws
