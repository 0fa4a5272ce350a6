pub mod Order
pub mod Parts
pub mod Reading
pub mod Cases
