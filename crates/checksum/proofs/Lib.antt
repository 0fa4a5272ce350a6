pub mod Congruence
pub mod Words
pub mod Cases
