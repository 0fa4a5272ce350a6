pub mod Labelling
pub mod Telling
pub mod Steps
pub mod Ends
