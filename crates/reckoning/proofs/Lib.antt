pub mod Answers
pub mod Chains
pub mod Reckoning
pub mod Reckons
