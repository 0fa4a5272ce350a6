pub mod Bits
pub mod Tables
pub mod Columns
pub mod Blocks
pub mod Literals
pub mod Comparing
pub mod Operands
pub mod Reaching
