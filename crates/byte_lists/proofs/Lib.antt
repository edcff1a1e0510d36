pub mod LittleEndian
pub mod Rows
