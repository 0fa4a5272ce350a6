pub mod Explains
pub mod Fronts
