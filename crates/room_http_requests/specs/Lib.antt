-- Paths and their parameters, bodies, and what they ask.

pub mod RequestTable
pub mod Parameters
pub mod Bodies
pub mod BodyFields
pub mod Router
pub mod TargetExamples
