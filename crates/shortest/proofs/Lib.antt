pub mod Marked
pub mod Progress
pub mod Greedy
pub mod Turns
pub mod Goals
pub mod Arrivals
pub mod Traced
