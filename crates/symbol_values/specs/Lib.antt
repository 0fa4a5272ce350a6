pub mod SymbolValues
