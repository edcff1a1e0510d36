mod WordLemmas
mod FlagLemmas
mod AnswerLemmas
mod SumLemmas
mod DifferenceLemmas
mod LogicLemmas
mod ConditionLemmas
mod DivisionLemmas
mod ExtensionLemmas
mod SwapLemmas
mod ProductLemmas
mod ScanLemmas
mod ShiftWords
mod ShiftNumbers
mod ShiftFacts
mod ShiftMade
mod ShiftCores
mod DoubleShiftCores
mod OpForms
mod ShiftForms
pub mod Parts
pub mod ShiftLaws
pub mod ShiftCoreRows
pub mod CoreFormLemmas
pub mod CoreLemmas
pub mod CoreRowLemmas
