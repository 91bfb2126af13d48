pub mod Pages
pub mod Answers
pub mod Worked
pub mod Numbers
pub mod Fits
pub mod Printed
pub mod Accepted
pub mod Readable
