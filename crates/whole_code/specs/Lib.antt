pub mod OneStack
pub mod Pairs
pub mod Building
pub mod Weight
pub mod Above
