pub mod Bounds
pub mod Pages
pub mod Places
pub mod Spans
