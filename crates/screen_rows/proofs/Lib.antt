pub mod Listed
pub mod Columns
