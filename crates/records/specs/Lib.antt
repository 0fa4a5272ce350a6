pub mod Bytes
pub mod Course
pub mod Operator
pub mod Record
pub mod Shape
pub mod RoundTrip
