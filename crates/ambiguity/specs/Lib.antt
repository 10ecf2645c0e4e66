pub mod Parts
pub mod Ambiguity
