pub mod Laws
pub mod Shortest
pub mod Takes
