pub mod Limits
pub mod Member
