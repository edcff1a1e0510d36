pub mod Wanted
pub mod Written
pub mod Laws
pub use Rattle.elf_image.specs.Image
pub use Rattle.elf_image.specs.Rows
