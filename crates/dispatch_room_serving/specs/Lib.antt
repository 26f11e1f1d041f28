-- the calls that come at a room, and what each begins with
pub mod Callers
-- what is served on connections, one after another
pub mod Connections
-- what is kept where questions are not
pub mod KeptChanges
-- what a journal holds, what of it lasts, and when it has failed
pub mod Journals
-- what the log has of what was asked and answered
pub mod LoggedLines
-- the parts of a line in the log
pub mod LogLines
-- the line of a message in the log
pub mod Logs
-- the room of a database, opened and served
pub mod ServedRoom
-- starts of a room's service, one after another
pub mod Starts
-- and services, imports and changes
pub mod Lives
-- the list that is kept over all starts
pub mod Lists
-- how a list is opened, and goes on
pub mod OpenedLists
-- the place of a list that is kept
pub mod ListPlaces
