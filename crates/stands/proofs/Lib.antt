pub mod MarkLaws
pub mod LentLaws
pub mod TrimLaws
pub mod LookLaws
pub mod Request
