pub mod Kept
pub mod Loading
pub mod Standing
pub mod Running
pub mod Turning
