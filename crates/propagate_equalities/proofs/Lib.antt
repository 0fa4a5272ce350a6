pub mod Quiet
pub mod Edges
