pub mod Ends
pub mod LeftOut
pub mod Answers
pub mod Rows
