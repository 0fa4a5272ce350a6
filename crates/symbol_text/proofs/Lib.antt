pub mod Hex
pub mod Cases
