pub mod Standing
mod Texts
mod Blocks
pub mod LaidText
pub mod InstrSizes
pub mod FormTexts
pub mod Walking
pub mod Adding
pub mod Pushed
