mod FieldLemmas
mod FleetLemmas
mod PlanLemmas
mod TableLemmas
