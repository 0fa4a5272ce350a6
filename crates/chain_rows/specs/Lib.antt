pub mod Chain
pub mod Classes
pub mod Limits
