pub mod Listed
pub mod Filed
