pub mod Answers
pub mod Ranges
pub mod Questions
pub mod Outcomes
pub mod Given
pub mod Room
pub mod Facts
pub mod Fields
