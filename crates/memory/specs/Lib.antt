pub mod Memory
pub mod MemoryLaws
pub mod SystemCall
pub mod CallLaws
pub mod LessSpecified
pub mod LessSpecifiedLaws
pub mod Rows
