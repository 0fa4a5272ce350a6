pub mod Evaluation
pub mod Ready
pub mod Marks
pub mod Answers
mod Cases
pub mod TypedRows
