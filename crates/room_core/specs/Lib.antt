pub mod DecisionRows
