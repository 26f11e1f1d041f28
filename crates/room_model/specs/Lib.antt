-- The meaning of the room. Read from the top: what a room is, what an event makes of it, and what a
-- division sees of that. Go on to the requests as you need them.

-- ---- the main law's words
-- a room: a plan, and lists of rows
pub mod Room
-- who sends events, and which events reach a room
pub mod Events
-- what is decided of an event, and the room after it
pub mod Step
-- the same over a list of events
pub mod Run
-- moves that a desk asks for at once, and their asks one by one
pub mod Moves
-- the rows of the room that one division owns
pub mod Shares
-- what an event hands to a division
pub mod Crossing
-- what becomes of a division, computed only from what it is handed
pub mod Isolation
-- ---- what the other laws speak of
-- what always holds of a room
pub mod RoomAgreements
-- rooms that were kept before loans were offered
pub mod UnofferedRooms
-- what becomes of a row of a fleet, and of a whole fleet
pub mod FleetRows
pub mod Fleets
-- the few rows that a request reads
pub mod WorkingRows
pub mod CrewRows
pub mod RoomSlices
-- ---- the requests, a group a file, as Step cites them
-- the form of each decision, and what it asks of the room
pub mod Decisions
pub mod Queries
pub mod Moments
-- calls, and a desk's asks
pub mod Calls
pub mod Incidents
pub mod Proposals
pub mod Vehicles
pub mod Loans
pub mod Points
pub mod Queue
pub mod DayTimes
pub mod ClosedIncidents
-- a crew's asks
pub mod Reports
pub mod CrewJobs
-- ---- what the engine serves and the store implements
-- what a room does with an event, and who shows a token
pub mod Rooms
-- the digests of a room in digits, what a head says of a room, and why a room comes to none
pub mod Digests
-- ---- worked examples
-- the definitions that the check computes, the words of a step, and a room to begin with
pub mod ComputedDefinitions
pub mod StepWords
pub mod ExampleRoom
-- a group of requests a file
pub mod PlaceExamples
pub mod CallExamples
pub mod IncidentExamples
pub mod VehicleExamples
pub mod MoveExamples
pub mod JobExamples
pub mod LoansAndOffers
pub mod ReportExamples
pub mod ProposalExamples
pub mod QueueExamples
pub mod TimesExamples
pub mod ClosedExamples
