-- how a peer is parted from
pub mod LingeringClose
-- how long it is until a moment
pub mod TimesLeft
-- what becomes of one that was looked at
pub mod Verdicts
-- what one look at all who are kept does
pub mod Sweeps
-- a stream that is served in pieces
pub mod Pieces
-- what has become of all who came
pub mod CallerHistories
-- whose turn it is of those who are to be served
pub mod Turns
-- who is given at a door, and what becomes of them
pub mod PieceTurns
-- whose moves are reported
pub mod Moves
-- those who are parted from
pub mod Departures
-- how long it is waited for someone to move
pub mod Pauses
-- rounds of looks
pub mod Rounds
-- what stands ahead in a stream
pub mod Lookaheads
