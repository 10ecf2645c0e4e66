pub mod Behind
pub mod Filling
pub mod Laws
pub mod Pairs
pub mod Searching
pub mod Showing
