pub mod Bytes
pub mod LengthLaws
pub mod OperationLaws
pub mod Operations
pub mod Steps
pub mod Turns
