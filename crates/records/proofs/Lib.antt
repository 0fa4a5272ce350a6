pub mod Laws
pub mod Inputs
pub mod Loops
pub mod Courses
pub mod RoundTrips
pub mod Ranges
