pub mod Content
pub mod Counts
