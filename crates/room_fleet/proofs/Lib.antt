pub mod MomentLaws
pub mod ReportLaws
