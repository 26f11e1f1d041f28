-- what a board asks for
pub mod Requests
-- what values of JSON say
pub mod Members
-- what rows say
pub mod BoardRows
-- the answers in what was heard
pub mod HeardAnswers
-- what one answer gives
pub mod AnswerRows
-- what is said of a report, and its words
pub mod ReportLines
-- what stands in a column
pub mod BoardCells
-- the columns of a table
pub mod CellLayout
-- lines, and the page that they make
pub mod Pages
-- what stands in the rows of each table
pub mod BoardTables
-- what came of an incident
pub mod Histories
-- why a part is not there
pub mod BoardErrors
-- the reports that are told beside a board
pub mod ToldReports
-- what a board shows, and how much could be reached
pub mod Boards
