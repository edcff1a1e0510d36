pub mod BooleanTests
pub mod Exact
pub mod Numbered
