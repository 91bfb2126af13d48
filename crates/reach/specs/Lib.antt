pub mod Marks
pub mod Columns
pub mod Tests
pub mod Steps
