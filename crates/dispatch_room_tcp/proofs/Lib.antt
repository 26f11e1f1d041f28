pub mod HostLemmas
pub mod ListeningLemmas
pub mod PartLemmas
