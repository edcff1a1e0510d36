pub mod Kept
pub mod Looking
pub mod Places
pub mod Opened
pub mod Returned
pub mod Closed
