pub mod Rising
pub mod BitSets
