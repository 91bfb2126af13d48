pub mod Answers
pub mod Right
pub mod Trimmed
pub mod Marking
pub mod Looking
