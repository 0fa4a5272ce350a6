pub mod Adding
pub mod Emitting
pub mod Telling
pub mod Writing
