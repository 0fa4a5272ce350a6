pub mod Arrays
pub mod Encoding
pub mod Lending
pub mod Propagating
pub mod Resolving
