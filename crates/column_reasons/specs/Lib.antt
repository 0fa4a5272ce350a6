pub mod ColumnText
