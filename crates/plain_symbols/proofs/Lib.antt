pub mod ColumnsRead
pub mod Refusals
