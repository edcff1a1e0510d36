pub mod Played
pub mod TurnChecks
pub mod AgreementChecks
pub mod EndingChecks
pub mod WeightChecks
pub mod Chain
pub mod RowChecks
