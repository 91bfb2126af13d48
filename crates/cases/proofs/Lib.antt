pub mod Parts
pub mod Texts
