mod FewTemps
mod Names
mod InSpan
mod NameCells
mod Addresses
pub mod PlacedCode
pub mod Recompiled
