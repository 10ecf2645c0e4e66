pub mod Asked
pub mod Given
pub mod Bound
pub mod Laws
