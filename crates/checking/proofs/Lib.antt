pub mod Sizes
pub mod Tables
pub mod Steps
pub mod Bits
pub mod Accepted
pub mod Answers
pub mod Standing
mod Others
mod Cases
