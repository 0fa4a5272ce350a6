pub mod RowTestWith
pub mod ColumnsWith
