pub mod Decodes
pub mod Decoding
pub use Rattle.x86_grammar.specs.Fronts
