pub mod Called
pub mod Slowest
