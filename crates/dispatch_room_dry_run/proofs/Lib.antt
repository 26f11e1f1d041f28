-- what holds of the example room as it is written out
pub mod ExampleLemmas
-- a fleet of which every row was enrolled
pub mod EnrolLemmas
-- a dialogue that is described only by the room at its beginning
pub mod ServeLemmas
