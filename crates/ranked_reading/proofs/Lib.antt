pub mod Walking
pub mod Conjuncts
pub mod Merged
