pub mod Kept
pub mod Listed
pub mod Numbers
pub mod Tests
pub mod Promised
