pub mod Asked
pub mod Blank
