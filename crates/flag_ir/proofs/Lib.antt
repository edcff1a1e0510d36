mod Composing
mod CalculationRows
mod OperationRows
mod CallRows
mod FrameRows
mod EnteringRows
mod ReturnRows
mod UnitRunRows
mod Weights
mod Counting
pub mod Lists
pub mod UnitMoves
pub mod KeptFrames
pub mod Openings
pub mod Leaving
pub mod Pacing
pub mod UnitRuns
pub mod ValuesLess
pub mod FramesLess
pub mod OperationsLess
pub mod LeavingLess
pub mod BareFrames
pub mod Agreement
pub mod Reading
pub mod Changing
pub mod ReadLists
pub mod CallAccesses
pub mod Accessing
pub mod MovingOutside
mod Empty
