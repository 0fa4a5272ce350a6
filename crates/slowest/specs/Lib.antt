pub mod SlowestAnswer
pub mod Screen
pub mod Answers
pub mod Promise
pub mod Calls
