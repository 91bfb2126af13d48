pub mod Firsts
pub mod Single
pub mod Places
pub mod Answers
pub mod Each
pub mod Refusals
