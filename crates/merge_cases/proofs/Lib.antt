pub mod Cases
pub mod ReadingCases
pub mod ReasonCases
