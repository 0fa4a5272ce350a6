pub mod Cases
pub mod Smallest
pub mod Witness
