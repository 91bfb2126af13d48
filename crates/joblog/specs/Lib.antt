pub mod Log
pub mod Counted
pub mod Results
pub mod Reader
pub mod Steps
