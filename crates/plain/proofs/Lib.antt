pub mod Readings
pub mod Screens
