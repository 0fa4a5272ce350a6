pub mod Answer
pub mod RowTest
