pub mod CallWork
pub mod DecidedLaws
pub mod MoveRows
