pub mod Accepting
pub mod Called
pub mod Chain
pub mod Collecting
pub mod Promised
pub mod Records
pub mod Writing
