pub mod Places
pub mod UsualMemory
pub mod AreaAccesses
pub mod ApartTest
