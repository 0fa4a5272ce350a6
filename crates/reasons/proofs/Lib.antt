pub mod Reading
pub mod Writing
pub mod Sizes
pub mod Values
pub mod Cases
