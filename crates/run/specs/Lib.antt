pub mod Outcome
pub mod Parts
pub mod Hit
pub mod Laws
