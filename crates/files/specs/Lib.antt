pub mod SaveAnswer
pub mod LoadAnswer
pub mod Answers
pub mod RoundTrip
pub mod Calls
