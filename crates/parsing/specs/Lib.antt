pub mod Refusals
pub mod Work
pub mod Build
pub mod Written
