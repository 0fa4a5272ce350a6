pub mod RowRanks
