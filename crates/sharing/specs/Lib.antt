pub mod Lowest
pub mod Sharer
