pub mod Fields
pub mod Checking
pub mod Reading
