pub mod Answers
pub mod Copies
pub mod Ordering
pub mod Parts
