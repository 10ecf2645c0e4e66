pub mod Two
pub mod Meeting
pub mod Behind
pub mod Turns
pub mod Twice
pub mod Whole
pub mod Plain
