pub mod Meeting
pub mod Arms
pub mod Passing
pub mod Answers
