pub mod End
pub mod Ranges
