pub mod IncidentCalls
pub mod IncidentMerges
pub mod CallLinks
pub mod ServedNeeds
pub mod LinkedCalls
pub mod Tallies
pub mod DayIncidents
pub mod ClosedPages
