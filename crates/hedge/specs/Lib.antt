pub mod Answer
pub mod Hedge
