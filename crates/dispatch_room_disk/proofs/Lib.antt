pub mod StepLemmas
pub mod StopLemmas
pub mod WorkLemmas
