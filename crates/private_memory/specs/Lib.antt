pub mod PrivateArea
pub mod PrivateAreaLaws
