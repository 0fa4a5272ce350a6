pub mod Divisions
pub mod Bits
