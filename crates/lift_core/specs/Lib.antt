pub mod Lifting
pub mod Whole
pub mod Pieces
pub mod Lists
pub mod Lengths
pub mod Laws
pub mod LiftRows
