pub mod Rows
pub mod Promised
pub mod Called
