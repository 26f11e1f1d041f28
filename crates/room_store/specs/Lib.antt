-- what is decided of an event, or why nothing is
pub mod EventDecisions
-- how far moves have come
pub mod MoveDecisions
-- what acting on an event makes of the tables
pub mod ActedEvents
-- what acting on a list of events makes of a store
pub mod EventRuns
-- what a store keeps, and which room it stands for
pub mod StoredRoom
-- a room that begins
pub mod StoreCreation
-- what the enrolment of fleet rows makes of the tables, and of a store
pub mod FleetEnrolment
-- what a fault is reported as
pub mod StoreFaults
-- the digest that an event leads to
pub mod DigestEvents
