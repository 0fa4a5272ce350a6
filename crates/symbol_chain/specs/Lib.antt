pub mod ChainWith
