pub mod DayLemmas
pub mod SpanLaws
pub mod ZoneLaws
