pub mod Masks
pub mod Block
