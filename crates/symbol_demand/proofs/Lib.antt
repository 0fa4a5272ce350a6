pub mod Bits
pub mod PlainBits
pub mod Values
pub mod Exit
pub mod Demand
pub mod AsEver
