pub mod Shown
pub mod Bits
