pub mod Records
pub mod RowFields
pub mod PlanLines
pub mod PlanRules
pub mod PlanFile
pub mod FleetFile
pub mod DayReport
pub mod CsvFaults
