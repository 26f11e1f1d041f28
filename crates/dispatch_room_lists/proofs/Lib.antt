pub mod DueLemmas
pub mod FollowLemmas
pub mod LegLemmas
pub mod RefusalLemmas
pub mod TerminalTextLemmas
