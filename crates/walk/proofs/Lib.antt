pub mod LineEdges
pub mod Agreement
pub mod Questions
pub mod Answers
pub mod Judging
pub mod Shown
pub mod Told
