pub mod Numbers
pub mod Insertions
pub mod Lists
pub mod Asked
