pub mod Putting
pub mod Laws
pub mod Chain
pub mod Ahead
pub mod Wrap
pub mod Turns
pub mod Bytes
pub mod Top
