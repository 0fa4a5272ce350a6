pub mod Reckon
pub mod Rewritten
