pub mod Pigeon
pub mod Lines
pub mod Words
