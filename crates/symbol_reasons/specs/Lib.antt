pub mod Lined
pub mod Explained
pub mod LineBehind
