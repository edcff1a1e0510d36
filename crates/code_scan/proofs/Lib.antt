pub mod Behind
pub mod Copying
pub mod Paging
pub mod Reading
pub mod Runs
pub mod Slices
pub mod Spans
pub mod TableWords
