pub mod Matching
pub mod Cores
