pub mod Orders
pub mod Comparing
pub mod Keys
