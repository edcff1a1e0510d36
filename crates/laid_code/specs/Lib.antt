pub mod Laid
pub mod LaidRun
pub mod Beginning
