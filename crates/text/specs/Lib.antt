pub mod Text
pub mod Padded
