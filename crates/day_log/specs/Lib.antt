pub mod Limits
pub mod Log
pub mod Format
pub mod Report
pub mod Laws
pub mod Cases
