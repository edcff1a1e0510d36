mod CodeRows
pub mod Courses
pub mod CodeMoves
pub mod Weighing
pub mod CodeRuns
pub mod TestedMoves
pub mod TestedRuns
mod ApartRows
