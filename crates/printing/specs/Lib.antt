pub mod Print
pub mod Right
pub mod Pieces
pub mod Measure
