pub mod Codes
pub mod Starts
