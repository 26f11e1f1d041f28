pub mod QueueAnswers
pub mod SeenLaws
pub mod ServedLaws
pub mod SortLaws
