pub mod Filling
pub mod Lists
pub mod Outsides
