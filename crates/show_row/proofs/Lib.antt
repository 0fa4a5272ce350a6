pub mod Nothing
pub mod Ends
pub mod Answers
pub mod Reading
pub mod Back
pub mod Passing
pub mod Promised
pub mod Called
