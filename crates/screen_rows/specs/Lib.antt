pub mod Answers
pub mod Listed
pub mod Promises
