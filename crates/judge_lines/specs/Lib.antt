pub mod WayAnswer
pub mod Lines
pub mod Answer
