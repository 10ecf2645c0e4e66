pub mod Judged
pub mod Calling
