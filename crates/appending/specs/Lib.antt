pub mod Appending
pub mod Placed
