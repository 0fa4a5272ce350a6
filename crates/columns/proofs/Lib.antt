pub mod Mergings
pub mod Written
pub mod Held
pub mod Indexing
