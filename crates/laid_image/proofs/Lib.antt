mod Lists
pub mod Fits
mod Finding
pub mod CodeBytes
pub mod OldMemory
pub mod TableWords
mod NewMemory
mod NameCells
mod FirstCells
pub mod FirstMemory
pub mod OtherBytes
