pub mod NullLines
