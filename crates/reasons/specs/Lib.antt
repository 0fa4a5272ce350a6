pub mod Reason
pub mod Text
pub mod Injective
pub mod Sizes
pub mod Explained
