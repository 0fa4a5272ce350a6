pub mod Answer
pub mod Check
pub mod Table
pub mod Tree
pub mod ReadAnswer
pub mod Columns
pub mod Checked
pub mod Fault
