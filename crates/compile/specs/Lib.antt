pub use Rattle.parsing.specs.Refusals
pub mod Answers
pub mod Right
