pub mod Checksum
pub mod Words
