pub mod Listed
pub mod Packed
pub mod Cut
pub mod Lent
pub mod Rest
pub mod Copied
pub mod Crossing
pub mod GivenTables
