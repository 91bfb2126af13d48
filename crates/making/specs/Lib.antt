pub mod Work
pub mod Build
pub mod Run
pub mod Numbers
