pub mod CandidateLaws
pub mod FirstLaws
pub mod OrderLaws
pub mod ProposedLaws
pub mod RingLaws
pub mod RoundLaws
pub mod SearchLaws
pub mod ViewLaws
