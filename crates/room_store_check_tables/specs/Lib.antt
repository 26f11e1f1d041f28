-- what a file holds that is read
pub mod HeldRooms
-- turns, reports and calls that are judged one at a time
pub mod JudgedHistories
-- what is reported of rows that are read one at a time
pub mod StreamedPlan
-- why tables are not read
pub mod ReadCauses
