pub mod SymbolTruths
