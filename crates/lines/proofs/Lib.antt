pub mod Passed
pub mod Lengths
