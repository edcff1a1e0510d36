pub mod Environment
pub mod Rows
