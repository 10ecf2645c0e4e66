pub mod Checks
pub mod Settles
pub mod Sounds
