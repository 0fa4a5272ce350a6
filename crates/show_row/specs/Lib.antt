pub mod ShowAnswer
pub mod Answer
pub mod Calls
pub mod Low
