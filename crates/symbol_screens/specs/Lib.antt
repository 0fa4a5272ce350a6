pub mod Held
pub mod Reading
pub mod Rewriting
pub mod Rows
pub mod Placed
pub mod Cases
