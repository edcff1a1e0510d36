pub mod Memories
pub mod Bytes
pub mod Calls
pub mod Ranges
pub mod LessSpecified
pub mod LessSpecifiedCalls
pub mod RangeRows
pub mod LessSpecifiedRows
