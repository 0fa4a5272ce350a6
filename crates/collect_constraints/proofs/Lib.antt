pub mod Collecting
pub mod NullLines
