pub mod Batch
pub mod Right
