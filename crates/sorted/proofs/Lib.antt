pub mod Parts
pub mod Merging
pub mod Halves
pub mod Searching
pub mod Words
pub mod Putting
pub mod Comparing
