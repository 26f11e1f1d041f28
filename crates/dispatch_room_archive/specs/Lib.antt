-- which rows stay behind, and which the new room has
pub mod Successor
-- how the old room and the new one go on
pub mod Continuation
-- a room put row by row
pub mod Composition
-- the incidents that their calls keep, as they are computed
pub mod CalledIncidents
-- the rows that stay behind, and the changes that put the others
pub mod Leftovers
-- the report of a division's day over two rooms
pub mod JoinedReports
-- the report of a division's day
pub mod TimesReport
-- what is wrong with a file, in words
pub mod FindingTexts
-- what is reported of a file that is checked
pub mod Examination
-- what a room leaves to a new one, and the new one
pub mod Renewal
