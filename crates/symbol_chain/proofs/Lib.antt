pub mod RowClasses
pub mod NumberedRows
