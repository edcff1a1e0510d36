pub mod Temporaries
pub mod Renumbering
pub mod Guarding
pub mod Lowering
pub mod RenumberingLaw
pub mod LoweringLaw
pub mod States
pub mod WorkedUnits
