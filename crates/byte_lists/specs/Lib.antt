pub mod LittleEndian
pub mod Laws
pub mod Rows
