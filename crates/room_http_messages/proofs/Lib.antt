pub mod FieldLemmas
pub mod RuleLemmas
pub mod LookLemmas
pub mod StreamLemmas
pub mod InboxLemmas
pub mod ReadingLemmas
pub mod LawLemmas
