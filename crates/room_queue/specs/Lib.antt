pub mod ServedIncidents
pub mod QueueEntries
