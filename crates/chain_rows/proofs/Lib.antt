pub mod Rows
pub mod RowChecks
