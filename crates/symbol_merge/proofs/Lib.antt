pub mod Outcomes
pub mod Slices
pub mod Fronts
pub mod Exchanged
pub mod Ending
pub mod Symbols
pub mod Taken
