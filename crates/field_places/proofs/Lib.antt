pub mod Places
pub mod Shapes
pub mod SameTransfers
pub mod Renamed
pub mod Effects
