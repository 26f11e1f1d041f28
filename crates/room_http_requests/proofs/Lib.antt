-- Lemmas on paths, parameters and fields.

pub mod TableLemmas
pub mod RouteLemmas
pub mod WalkLemmas
pub mod BodyLemmas
pub mod ParameterLemmas
pub mod FieldLemmas
pub mod RoleLaws
