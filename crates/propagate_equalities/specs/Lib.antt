pub mod Quiet
pub mod Taken
