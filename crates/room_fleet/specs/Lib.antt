pub mod ReportedRows
