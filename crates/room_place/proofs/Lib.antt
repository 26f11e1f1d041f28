pub mod Choices
pub mod Roots
pub mod PlaceLaws
pub mod CellLaws
pub mod PlanLaws
pub mod DigitLaws
pub mod ReferenceLaws
