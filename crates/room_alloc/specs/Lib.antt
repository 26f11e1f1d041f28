pub mod Cover
pub mod ProposalAnswers
pub mod Nearness
pub mod NearnessLemmas
pub mod Rings
