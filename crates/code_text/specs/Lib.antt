pub mod Texts
pub mod Placing
pub mod KeptPlaces
pub mod TableJump
pub mod Sizes
