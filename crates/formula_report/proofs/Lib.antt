pub mod Pages
pub mod Fits
