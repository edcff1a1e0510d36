mod Given
mod Memories
mod OwnPairs
mod NextInstruction
mod Acting
mod Calling
mod Stepping
mod Moving
mod PlainItems
mod CallItems
mod TableSteps
mod TableJumps
mod OldJumps
mod Finding
mod Simulating
pub mod Laid
mod FirstMemories
pub mod Beginnings
pub mod Forms
