pub mod Placing
pub mod Records
pub mod Pools
pub mod Reading
