pub mod GivenLiterals
pub mod Converting
pub mod Compared
pub mod Written
