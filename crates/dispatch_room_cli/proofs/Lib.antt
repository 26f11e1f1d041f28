pub mod TerminalNameLemmas
pub mod DatabaseNameLemmas
pub mod BuilderLemmas
pub mod MatchLemmas
pub mod ExplainLemmas
pub mod AddressLemmas
