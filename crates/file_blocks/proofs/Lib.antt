pub mod Lists
pub mod Making
