pub mod Turns
pub mod Agreement
pub mod Ends
pub mod Weight
pub mod Alternate
pub mod UnitChain
pub mod LaidCode
pub mod Rows
