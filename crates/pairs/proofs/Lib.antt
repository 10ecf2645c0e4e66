pub mod Holds
pub mod Compared
