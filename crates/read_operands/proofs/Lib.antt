pub mod Walks
pub mod Classifying
pub mod Reading
