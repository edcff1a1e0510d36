pub mod Recompiling
