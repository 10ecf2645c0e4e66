pub mod Change
pub mod Head
pub mod Laid
pub mod Laws
pub mod Place
