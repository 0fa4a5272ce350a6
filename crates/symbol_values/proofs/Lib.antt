pub mod Beside
pub mod SymbolLists
