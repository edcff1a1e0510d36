pub mod Told
pub mod Calls
pub mod Moved
pub mod Scripts
pub mod Memory
pub mod Laws
pub mod Chains
