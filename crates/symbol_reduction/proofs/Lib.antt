pub mod TextInputs
pub mod TextLeaves
pub mod ReducedTruth
pub mod Constants
pub mod ReducedFit
