pub mod Limits
pub mod Charge
pub mod Replan
pub mod Laws
pub mod Cases
