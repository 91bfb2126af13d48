pub mod Storing
pub mod Decimals
pub mod Placed
