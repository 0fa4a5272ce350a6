pub mod Abstraction
pub mod Steps
