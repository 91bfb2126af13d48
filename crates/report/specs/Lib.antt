pub mod Page
pub mod Readable
pub mod Examples
