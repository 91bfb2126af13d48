pub mod Goals
pub mod Progress
pub mod Descent
