pub mod Turns
pub mod Worths
pub mod Telling
pub mod Working
pub mod Parts
pub mod Dividing
