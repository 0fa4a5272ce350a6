pub mod RankedChain
pub mod Chunks
