pub mod Memberships
pub mod Lists
