pub mod Profile
pub mod Right
pub mod Room
