pub mod Grow
pub mod Next
pub mod Product
pub mod Sides
